-- The values of the words of what is pending, and of a running transfer.
use Rattle.std.proofs.Common.{◌≡◌, ◌≤◌, ◌*◌, ◌⊎◌, inl, inr, List, [], ◌∷◌, ℕ, zero, suc, Bool}
use Rattle.std.proofs.Common.{true, false}
use Rattle.std.proofs.Common.{length, take, slice_index, nat_le, ◌==◌, ◌||◌, refl, sym, subst}
use Rattle.std.proofs.Common.{◌∙◌, arith}
use Rattle.std.proofs.Common.{if◌then◌else◌}
use Rattle.std.proofs.lemmas.Bool.{leb-true, eqb-true, and_parts, cases_Bool}
use Rattle.std.proofs.lemmas.Nat.{mul-le}
use Rattle.gp0_words.specs.Kinds.{class_of, is_end, is_set, begins_polyline}
use Rattle.gp0_words.specs.Next.{IsPolyline}
use Rattle.gp1_status.proofs.WordsBack.{flags-again}
use Rattle.snapshot_words.specs.Sections.{IsWhole}
use Rattle.snapshot_words.specs.Shapes.{IsPendingPart, IsRunPart}
use Rattle.snapshot_words.specs.declared.section.Section.TheVariants as section
use Rattle.snapshot_words.proofs.Packets.{IsPacketPart, packet_is}
use Rattle.snapshot_words.proofs.Shapes.{shape1, shape2, shape5, shape6, length_is, taken_word, job_tests, either}
use Rattle.snapshot_words.proofs.Shapes.{is_not, address_is}

-- ---- kinds

kinds : (k : ℕ) → k ≤ 3 → (k ≡ 0) ⊎ ((k ≡ 1) ⊎ ((k ≡ 2) ⊎ (k ≡ 3)))
kinds zero few = inl refl
kinds (suc zero) few = inr (inl refl)
kinds (suc (suc zero)) few = inr (inr (inl refl))
kinds (suc (suc (suc zero))) few = inr (inr (inr refl))
kinds (suc (suc (suc (suc k)))) few = absurd (omega (arith, few))

-- ---- polylines

line_is : (command : ℕ) → begins_polyline command ≡ true → IsPolyline command
line_is command e =
    let parts = and_parts (class_of command == 2) (is_set command 27) e in
    let two : class_of command ≡ 2 = eqb-true (class_of command) 2 parts.0 in
    rw (two, parts.1) refl

color_is : (command color : ℕ) → (is_set command 28 || (color == command)) ≡ true → is_set command 28 ≡ false
    → color ≡ command
color_is command color e flat =
    elim (either (is_set command 28) (color == command) e) [
      | inl shaded ↦ absurd (let f = sym shaded ∙ flat in cc)
      | inr same ↦ eqb-true color command same
    ]

no_half : (shaded : Bool) (flag : ℕ) → (if shaded then nat_le flag 1 else flag == 0) ≡ true → (flag == 1) ≡ false
    → flag ≡ 0
no_half true zero e other = refl
no_half true (suc zero) e other = absurd cc
no_half true (suc (suc n)) e other = absurd (let le = leb-true (suc (suc n)) 1 e in omega (arith, le))
no_half false flag e other = eqb-true flag 0 e

half_shaded : (shaded : Bool) → (if shaded then nat_le 1 1 else 1 == 0) ≡ true → shaded ≡ true
half_shaded true e = refl
half_shaded false e = absurd cc

module _ (height : ℕ) where
  idle_listed : (k : ℕ) → k ≡ 0 → IsPendingPart height (k ∷ [])
  idle_listed k kind = rw kind (record {
    spelled = refl;
    packet = λ e. absurd (omega (arith, e));
    few = omega arith;
    job = λ e. absurd (omega (arith, e));
    bounds = tt;
    link = refl;
    load = tt;
  })

  packet_listed : (words : List ℕ) → slice_index words 0 ≡ 1 → IsPacketPart words → IsPendingPart height words
  packet_listed [] kind is = absurd (omega (arith, kind))
  packet_listed (k ∷ []) kind is = absurd (let long = is.long in omega (arith, long))
  packet_listed (k ∷ n ∷ []) kind is = absurd (let long = is.long in let some = is.some in omega (arith, long, some))
  packet_listed (k ∷ n ∷ w ∷ more) kind is =
      let long = is.long in
      let few = is.few in
      let part = is.part in
      let count : n ≡ length (w ∷ more) = omega (arith, long) in
      rw kind (record {
        spelled = rw (← count) refl;
        packet = λ e. omega arith;
        few = omega (arith, long, few);
        job = λ e. absurd (omega (arith, e));
        bounds = (omega arith, rw (← count) part);
        link = refl;
        load = tt;
      })

  load_listed : (k x y w h at : ℕ) → IsWhole (section.Pending height) (k ∷ x ∷ y ∷ w ∷ h ∷ at ∷ []) → k ≡ 2
      → IsPendingPart height (k ∷ x ∷ y ∷ w ∷ h ∷ at ∷ [])
  load_listed k x y w h at whole kind =
      let is : IsWhole (section.Pending height) (2 ∷ x ∷ y ∷ w ∷ h ∷ at ∷ []) =
      subst (λ k. IsWhole (section.Pending height) (k ∷ x ∷ y ∷ w ∷ h ∷ at ∷ [])) kind whole in
      let job = job_tests height x y w h at (is.allowed.each 1 (omega arith)) (is.allowed.each 2 (omega arith))
      (is.allowed.each 3 (omega arith)) (is.allowed.each 4 (omega arith)) (is.allowed.each 5 (omega arith)) in
      let more = job.more in
      let most : w * h ≤ 1024 * 512 = mul-le w h 1024 512 job.w job.h in
      rw kind (record {
        spelled = refl;
        packet = λ e. absurd (omega (arith, e));
        few = omega arith;
        job = λ e. job;
        bounds = (omega (arith, more), omega (arith, most));
        link = (refl, more);
        load = job;
      })

  line_listed : (k command color vertex flag : ℕ)
      → IsWhole (section.Pending height) (k ∷ command ∷ color ∷ vertex ∷ flag ∷ [])
      → k ≡ 3 → (flag == 1) ≡ false → IsPendingPart height (k ∷ command ∷ color ∷ vertex ∷ flag ∷ [])
  line_listed k command color vertex flag whole kind other =
      let is : IsWhole (section.Pending height) (3 ∷ command ∷ color ∷ vertex ∷ flag ∷ []) =
      subst (λ k. IsWhole (section.Pending height) (k ∷ command ∷ color ∷ vertex ∷ flag ∷ [])) kind whole in
      let none : flag ≡ 0 = no_half (is_set command 28) flag (is.allowed.each 4 (omega arith)) other in
      rw (kind, none) (record {
        spelled = refl;
        packet = λ e. absurd (omega (arith, e));
        few = omega arith;
        job = λ e. absurd (omega (arith, e));
        bounds = (
          line_is command (is.allowed.each 1 (omega arith)),
          color_is command color (is.allowed.each 2
              (omega arith)),
        );
        link = refl;
        load = tt;
      })

  joint_listed : (k command color vertex flag half : ℕ)
      → IsWhole (section.Pending height) (k ∷ command ∷ color ∷ vertex ∷ flag ∷ half ∷ [])
      → k ≡ 3 → flag ≡ 1 → IsPendingPart height (k ∷ command ∷ color ∷ vertex ∷ flag ∷ half ∷ [])
  joint_listed k command color vertex flag half whole kind one =
      let with_kind : IsWhole (section.Pending height) (3 ∷ command ∷ color ∷ vertex ∷ flag ∷ half ∷ []) =
      subst (λ k. IsWhole (section.Pending height) (k ∷ command ∷ color ∷ vertex ∷ flag ∷ half ∷ [])) kind whole in
      let is : IsWhole (section.Pending height) (3 ∷ command ∷ color ∷ vertex ∷ 1 ∷ half ∷ []) =
      subst (λ flag. IsWhole (section.Pending height)
      (3 ∷ command ∷ color ∷ vertex ∷ flag ∷ half ∷ [])) one with_kind in
      rw (kind, one) (record {
        spelled = refl;
        packet = λ e. absurd (omega (arith, e));
        few = omega arith;
        job = λ e. absurd (omega (arith, e));
        bounds = (
          line_is command (is.allowed.each 1 (omega arith)),
          half_shaded (is_set command 28)
              (is.allowed.each 4 (omega arith)),
          is_not (is_end half) (is.allowed.each 5 (omega arith)),
        );
        link = refl;
        load = tt;
      })

  module _ (words : List ℕ) (is : IsWhole (section.Pending height) words) where
    idle_is : slice_index words 0 ≡ 0 → IsPendingPart height words
    idle_is kind =
        let same : slice_index (take 1 words) 0 ≡ 0 = taken_word 1 words 0 (omega arith) ∙ kind in
        shape1 (λ words. slice_index words 0 ≡ 0 → IsPendingPart height words) (λ k e. idle_listed k e) words
        (length_is (section.Pending height) words is 1 (rw kind refl) (rw same refl)) kind

    load_is : slice_index words 0 ≡ 2 → IsPendingPart height words
    load_is kind =
        let same : slice_index (take 6 words) 0 ≡ 2 = taken_word 6 words 0 (omega arith) ∙ kind in
        shape6 (λ words. IsWhole (section.Pending height) words → slice_index words 0 ≡ 2 → IsPendingPart height words)
        (λ k x y w h at is e. load_listed k x y w h at is e) words
        (length_is (section.Pending height) words is 6 (rw kind refl) (rw same refl)) is kind

    line_shape : slice_index words 0 ≡ 3 → IsPendingPart height words
    line_shape kind =
        elim (cases_Bool (slice_index words 4 == 1)) [
          | inl one ↦
              let same : slice_index (take 6 words) 0 ≡ 3 = taken_word 6 words 0 (omega arith) ∙ kind in
              let flag : (slice_index (take 6 words) 4 == 1) ≡ true = rw (taken_word 6 words 4 (omega arith)) one in
              shape6 (λ words. IsWhole (section.Pending height) words → slice_index words 0
              ≡ 3 → slice_index words 4 ≡ 1
              → IsPendingPart height words)
              (λ k command color vertex flag half is e f. joint_listed k command color vertex flag half is e f) words
              (length_is (section.Pending height) words is 6 (rw (kind, one) refl) (rw (same, flag) refl)) is kind
              (eqb-true _ _ one)
          | inr other ↦
              let same : slice_index (take 5 words) 0 ≡ 3 = taken_word 5 words 0 (omega arith) ∙ kind in
              let flag : (slice_index (take 5 words) 4 == 1) ≡ false = rw (taken_word 5 words 4 (omega arith)) other in
              shape5 (λ words. IsWhole (section.Pending height) words → slice_index words 0 ≡ 3
              → (slice_index words 4 == 1) ≡ false → IsPendingPart height words)
              (λ k command color vertex flag is e f. line_listed k command color vertex flag is e f) words
              (length_is (section.Pending height) words is 5 (rw (kind, other) refl) (rw
              (same, flag) refl)) is kind other
        ]

  pub pending_is : (words : List ℕ) → IsWhole (section.Pending height) words → IsPendingPart height words
  pending_is [] is = absurd (let e = is.whole in cc)
  pending_is (k ∷ more) is =
      elim (kinds k (leb-true k 3 (is.allowed.each 0 (omega arith)))) [
        | inl e ↦ idle_is (k ∷ more) is e
        | inr (inl e) ↦ packet_listed (k ∷ more) e (packet_is height (k ∷ more) is e)
        | inr (inr (inl e)) ↦ load_is (k ∷ more) is e
        | inr (inr (inr e)) ↦ line_shape (k ∷ more) is e
      ]

-- ---- the running transfer

turn_listed : (k at left block flags : ℕ) → IsWhole section.Run (k ∷ at ∷ left ∷ block ∷ flags ∷ []) → k ≡ 1
    → IsRunPart (k ∷ at ∷ left ∷ block ∷ flags ∷ [])
turn_listed k at left block flags whole kind =
    let is : IsWhole section.Run (1 ∷ at ∷ left ∷ block ∷ flags ∷ []) =
    subst (λ k. IsWhole section.Run (k ∷ at ∷ left ∷ block ∷ flags ∷ [])) kind whole in
    let lefts = and_parts (nat_le 1 left) (nat_le left 524288) (is.allowed.each 2 (omega arith)) in
    let blocks = and_parts (nat_le 1 block) (nat_le block 65536) (is.allowed.each 3 (omega arith)) in
    let few = leb-true flags 3 (is.allowed.each 4 (omega arith)) in
    rw kind (record {
      spelled = rw (flags-again flags (omega (arith, few))) refl;
      bounds = (
        address_is at (is.allowed.each 1 (omega arith)),
        (leb-true 1 left lefts.0, leb-true left 524288 lefts.1),
        (leb-true 1 block blocks.0, leb-true block 65536 blocks.1),
      );
    })

node_listed : (k node : ℕ) → IsWhole section.Run (k ∷ node ∷ []) → k ≡ 2 → IsRunPart (k ∷ node ∷ [])
node_listed k node whole kind =
    let is : IsWhole section.Run (2 ∷ node ∷ []) = subst (λ k. IsWhole section.Run (k ∷ node ∷ [])) kind whole in
    rw kind (record { spelled = refl; bounds = address_is node (is.allowed.each 1 (omega arith)) })

rest_listed : (k : ℕ) → k ≡ 0 → IsRunPart (k ∷ [])
rest_listed k kind = rw kind (record { spelled = refl; bounds = tt })

module _ (words : List ℕ) (is : IsWhole section.Run words) where
  rest_is : slice_index words 0 ≡ 0 → IsRunPart words
  rest_is kind =
      let same : slice_index (take 1 words) 0 ≡ 0 = taken_word 1 words 0 (omega arith) ∙ kind in
      shape1 (λ words. slice_index words 0 ≡ 0 → IsRunPart words) (λ k e. rest_listed k e) words
      (length_is section.Run words is 1 (rw kind refl) (rw same refl)) kind

  turn_is : slice_index words 0 ≡ 1 → IsRunPart words
  turn_is kind =
      let same : slice_index (take 5 words) 0 ≡ 1 = taken_word 5 words 0 (omega arith) ∙ kind in
      shape5 (λ words. IsWhole section.Run words → slice_index words 0 ≡ 1 → IsRunPart words)
      (λ k at left block flags is e. turn_listed k at left block flags is e) words
      (length_is section.Run words is 5 (rw kind refl) (rw same refl)) is kind

  node_is : slice_index words 0 ≡ 2 → IsRunPart words
  node_is kind =
      let same : slice_index (take 2 words) 0 ≡ 2 = taken_word 2 words 0 (omega arith) ∙ kind in
      shape2 (λ words. IsWhole section.Run words → slice_index words 0 ≡ 2 → IsRunPart words)
      (λ k node is e. node_listed k node is e) words
      (length_is section.Run words is 2 (rw kind refl) (rw same refl)) is kind

pub run_is : (words : List ℕ) → IsWhole section.Run words → IsRunPart words
run_is [] is = absurd (let e = is.whole in cc)
run_is (k ∷ more) is =
    let few : k ≤ 2 = leb-true k 2 (is.allowed.each 0 (omega arith)) in
    elim (kinds k (omega (arith, few))) [
      | inl e ↦ rest_is (k ∷ more) is e
      | inr (inl e) ↦ turn_is (k ∷ more) is e
      | inr (inr (inl e)) ↦ node_is (k ∷ more) is e
      | inr (inr (inr e)) ↦ absurd (omega (arith, e, few))
    ]
