-- The words of values within the bounds are those of whole parts.
use Rattle.std.proofs.Common.{◌≡◌, ◌≤◌, ◌<◌, ◌+◌, ◌-◌, ◌*◌, ◌/◌, ◌%◌, ◌^◌, ◌++◌, min, inl, inr, List, [], ◌∷◌, ℕ}
use Rattle.std.proofs.Common.{zero, suc, Bool, true, false}
use Rattle.std.proofs.Common.{Option, None, Some, length, take, slice_index, nat_lt, nat_le, ◌==◌, ◌||◌}
use Rattle.std.proofs.Common.{refl, sym, ap, subst}
use Rattle.std.proofs.Common.{◌∙◌, append_assoc, append-nil, length-append, if◌then◌else◌, arith}
use Rattle.std.proofs.lemmas.Bool.{le-ltb, eq-eqb, ne_eqb, lt-ltb, le-leb, and_from, cases_Bool}
use Rattle.std.proofs.lemmas.Bool.Decides.{nat_tests}
use Rattle.std.proofs.lemmas.List.{length-take-le}
use Rattle.std.proofs.lemmas.Nat.{mul-le}
use Rattle.gp0_words.specs.Kinds.{first_len_of, class_of, is_set, begins_polyline}
use Rattle.gp0_words.specs.Next.{IsPending, IsPolyline}
use Rattle.gp0_words.specs.declared.pending.Pending.{Pending}
use Rattle.gp0_words.specs.declared.pending.Pending.TheVariants as pending
use Rattle.gp1_status.specs.Registers.{Registers, bit_of}
use Rattle.gp1_status.specs.Words.{words_of, is_allowed, AreAllowed as RegisterBits}
use Rattle.gpu_capture.specs.Whole.{AreWords}
use Rattle.gpu_core.specs.Kept.{IsJob, IsLinked, IsOpen}
use Rattle.list_dma.specs.Plans.{IsRun, IsWordAddress}
use Rattle.list_dma.specs.declared.run.Run.{Run}
use Rattle.list_dma.specs.declared.run.Run.TheVariants as run
use Rattle.px_num.specs.Height.{IsHeight}
use Rattle.vram_copy.specs.declared.transfer.Transfer.{Transfer}
use Rattle.snapshot_words.specs.Sections.{wants, allows, is_address, AreAllowed, IsWhole}
use Rattle.snapshot_words.specs.Values.{front_words, job_words, store_words, pending_words, run_words}
use Rattle.snapshot_words.specs.declared.section.Section.TheVariants as section
use Rattle.snapshot_words.proofs.Gathering.{none_allowed, allowed_on}
use Rattle.snapshot_words.proofs.Packets.{allows_after}

-- ---- words that fit

pub words_left_part : (a b : List ℕ) → AreWords (a ++ b) → AreWords a
words_left_part [] b are = tt
words_left_part (w ∷ a) b are = (are.0, words_left_part a b are.1)

pub words_right_part : (a b : List ℕ) → AreWords (a ++ b) → AreWords b
words_right_part [] b are = are
words_right_part (w ∷ a) b are = words_right_part a b are.1

word_fits : (words : List ℕ) → AreWords words → (i : ℕ) → i < length words → slice_index words i < 2 ^ 32
word_fits [] are i h = absurd (omega (arith, h))
word_fits (w ∷ words) are zero h = are.0
word_fits (w ∷ words) are (suc i) h = word_fits words are.1 i (omega (arith, h))

-- ---- the front

height_allowed : (height : ℕ) → IsHeight height → ((height == 512) || (height == 1024)) ≡ true
height_allowed height (inl e) = rw e refl
height_allowed height (inr e) = rw e refl

pub height_few : (height : ℕ) → IsHeight height → height ≤ 1024
height_few height (inl e) = omega (arith, e)
height_few height (inr e) = omega (arith, e)

pub front_whole : (height played : ℕ) → IsHeight height → played < 2 ^ 63
    → IsWhole section.Front (front_words height played)
front_whole height played known few =
    let tall = height_few height known in
    let low : played % 2 ^ 32 < 2 ^ 32 = omega arith in
    let high : played / 2 ^ 32 < 0x80000000 = omega (arith, few) in
    record {
      allowed = allowed_on section.Front (height ∷ played % 2 ^ 32 ∷ []) (played / 2 ^ 32)
          (allowed_on section.Front (height ∷ []) (played % 2 ^ 32)
          (allowed_on section.Front [] height (none_allowed section.Front) refl (height_allowed height known) (omega
          (arith, tall)))
          refl refl low)
          refl (lt-ltb _ _ high) (omega (arith, high));
      whole = refl;
    }

-- ---- registers

pub registers_whole : (r : Registers) → RegisterBits r.height (words_of r) → AreWords (words_of r)
    → IsWhole (section.Registers r.height) (words_of r)
registers_whole r bits are = record {
  allowed = record {
    due = λ i h. let count = length-take-le i (words_of r) (omega (arith, h)) in lt-ltb _ _ (omega (arith, count, h));
    each = λ i h.
        let count : length (take i (words_of r)) ≡ i = length-take-le i (words_of r) (omega (arith, h)) in
        subst (λ k. is_allowed r.height k (slice_index (words_of r) i) ≡ true) (sym count) (bits.each i h);
    fits = word_fits (words_of r) are;
  };
  whole = refl;
}

-- ---- transfers

module _ (height : ℕ) (tall : height ≤ 1024) where
  pub store_whole : (store : Option Transfer) → IsOpen height store → IsWhole (section.Store height) (store_words store)
  store_whole None is = record {
    allowed = allowed_on (section.Store height) [] 0 (none_allowed (section.Store height)) refl refl (omega arith);
    whole = refl;
  }
  store_whole (Some job) is =
      let s = section.Store height in
      let most : job.w * job.h ≤ 1024 * 512 = mul-le job.w job.h 1024 512 is.w is.h in
      let x = is.x in let y = is.y in let w = is.w in let h = is.h in let more = is.more in
      record {
        allowed = allowed_on s (1 ∷ job.x ∷ job.y ∷ job.w ∷ job.h ∷ []) job.at
            (allowed_on s (1 ∷ job.x ∷ job.y ∷ job.w ∷ []) job.h
            (allowed_on s (1 ∷ job.x ∷ job.y ∷ []) job.w
            (allowed_on s (1 ∷ job.x ∷ []) job.y
            (allowed_on s (1 ∷ []) job.x
            (allowed_on s [] 1 (none_allowed s) refl refl (omega arith))
            refl (lt-ltb _ _ is.x) (omega (arith, x)))
            refl (lt-ltb _ _ is.y) (omega (arith, y, tall)))
            refl (and_from _ _ (le-leb _ _ is.w_some) (le-leb _ _ is.w)) (omega (arith, w)))
            refl (and_from _ _ (le-leb _ _ is.h_some) (le-leb _ _ is.h)) (omega (arith, h)))
            refl (and_from _ _ (eq-eqb _ _ is.even) (lt-ltb _ _ is.more)) (omega (arith, more, most));
        whole = refl;
      }

  -- ---- what is pending

  load_whole : (job : Transfer) → IsJob height job → IsWhole (section.Pending height) (2 ∷ job_words job)
  load_whole job is =
      let s = section.Pending height in
      let most : job.w * job.h ≤ 1024 * 512 = mul-le job.w job.h 1024 512 is.w is.h in
      let x = is.x in let y = is.y in let w = is.w in let h = is.h in let more = is.more in
      record {
        allowed = allowed_on s (2 ∷ job.x ∷ job.y ∷ job.w ∷ job.h ∷ []) job.at
            (allowed_on s (2 ∷ job.x ∷ job.y ∷ job.w ∷ []) job.h
            (allowed_on s (2 ∷ job.x ∷ job.y ∷ []) job.w
            (allowed_on s (2 ∷ job.x ∷ []) job.y
            (allowed_on s (2 ∷ []) job.x
            (allowed_on s [] 2 (none_allowed s) refl refl (omega arith))
            refl (lt-ltb _ _ is.x) (omega (arith, x)))
            refl (lt-ltb _ _ is.y) (omega (arith, y, tall)))
            refl (and_from _ _ (le-leb _ _ is.w_some) (le-leb _ _ is.w)) (omega (arith, w)))
            refl (and_from _ _ (le-leb _ _ is.h_some) (le-leb _ _ is.h)) (omega (arith, h)))
            refl (and_from _ _ (eq-eqb _ _ is.even) (lt-ltb _ _ is.more)) (omega (arith, more, most));
        whole = refl;
      }

first_most : (w : ℕ) → first_len_of w ≤ 12
first_most w = grind (arith, nat_tests)

-- a polyline's command word
line_command : (command : ℕ) → IsPolyline command → begins_polyline command ≡ true
line_command command is =
    elim (cases_Bool (class_of command == 1)) [
      | inl polygon ↦ absurd (let e = rw polygon at is in cc)
      | inr not_polygon ↦
          elim (cases_Bool (class_of command == 2)) [
            | inl line ↦
                elim (cases_Bool (is_set command 27)) [
                  | inl many ↦ and_from _ _ line many
                  | inr one ↦ absurd (let e = rw (not_polygon, line, one) at is in cc)
                ]
            | inr not_line ↦
                elim (cases_Bool (class_of command == 3)) [
                  | inl third ↦ absurd (let e = rw (not_polygon, not_line, third) at is in cc)
                  | inr not_third ↦
                      elim (cases_Bool (class_of command == 4)) [
                        | inl fourth ↦ absurd (let e = rw (not_polygon, not_line, not_third, fourth) at is in cc)
                        | inr not_fourth ↦
                            elim (cases_Bool (class_of command == 5)) [
                              | inl fifth ↦ absurd (let e = rw
                                  (not_polygon, not_line, not_third, not_fourth, fifth) at is in cc)
                              | inr not_fifth ↦
                                  elim (cases_Bool (class_of command == 6)) [
                                    | inl sixth ↦
                                        absurd (let e = rw
                                        (not_polygon, not_line, not_third, not_fourth, not_fifth, sixth) at is in cc)
                                    | inr not_sixth ↦
                                        absurd (let e = rw
                                        (not_polygon, not_line, not_third, not_fourth, not_fifth, not_sixth)
                                        at is in cc)
                                  ]
                            ]
                      ]
                ]
          ]
    ]

color_allowed : (command color : ℕ) → (is_set command 28 ≡ false → color ≡ command)
    → (is_set command 28 || (color == command)) ≡ true
color_allowed command color same =
    elim (cases_Bool (is_set command 28)) [
      | inl shaded ↦ rw shaded refl
      | inr flat ↦ rw (flat, same flat) (eq-eqb command command refl)
    ]

shaded_few : (shaded : Bool) → shaded ≡ true → (if shaded then nat_le 1 1 else 1 == 0) ≡ true
shaded_few shaded e = rw e refl

zero_allowed : (shaded : Bool) → (if shaded then nat_le 0 1 else 0 == 0) ≡ true
zero_allowed true = refl
zero_allowed false = refl

-- ---- words of an incomplete item

same_head : (got more : List ℕ) (w f : ℕ) → slice_index (got ++ (w ∷ more)) 0 ≡ f → slice_index (got ++ w ∷ []) 0 ≡ f
same_head [] more w f e = e
same_head (g ∷ got) more w f e = e

module _ (height n f : ℕ) (few : n < first_len_of f) where
  packet_may : (got : List ℕ) (w : ℕ) → slice_index (got ++ w ∷ []) 0 ≡ f → length got < n
      → allows (section.Pending height) (1 ∷ n ∷ got) w ≡ true
  packet_may [] w head short =
      let some : 1 < first_len_of f = omega (arith, few, short) in
      rw head (allows_after height 1 n [] f refl ∙ lt-ltb 1 (first_len_of f) some)
  packet_may (g ∷ gs) w head short =
      let one : (length (1 ∷ n ∷ g ∷ gs) == 1) ≡ false =
      ne_eqb (length (1 ∷ n ∷ g ∷ gs)) 1 (λ e. absurd (omega (arith, e))) in
      let two : (length (1 ∷ n ∷ g ∷ gs) == 2) ≡ false =
      ne_eqb (length (1 ∷ n ∷ g ∷ gs)) 2 (λ e. absurd (omega (arith, e))) in
      let part : nat_lt (length (1 ∷ n ∷ f ∷ gs) - 1) (first_len_of f) ≡ true =
      lt-ltb _ _ (omega (arith, few, short)) in
      allows_after height 1 n (g ∷ gs) w refl ∙ (rw (one, two) (rw head part))

  packet_allowed : (most : n ≤ 11) (got more : List ℕ) → AreWords more → slice_index (got ++ more) 0 ≡ f
      → length got + length more ≡ n → AreAllowed (section.Pending height) (1 ∷ n ∷ got)
      → AreAllowed (section.Pending height) (1 ∷ n ∷ (got ++ more))
  packet_allowed most got [] are head count allowed = rw (append-nil got) allowed
  packet_allowed most got (w ∷ more) are head count allowed =
      let due : wants (section.Pending height) (1 ∷ n ∷ got) ≡ true = lt-ltb _ _ (omega (arith, count, most)) in
      let may = packet_may got w (same_head got more w f head) (omega (arith, count)) in
      let longer = length-append got (w ∷ []) in
      subst (λ words. AreAllowed (section.Pending height) (1 ∷ n ∷ words)) (append_assoc got (w ∷ []) more)
      (packet_allowed most (got ++ w ∷ []) more are.1 (ap (λ l. slice_index l 0) (append_assoc got (w ∷ []) more)
      ∙ head)
      (omega (arith, count, longer))
      (allowed_on (section.Pending height) (1 ∷ n ∷ got) w allowed due may are.0))

packet_whole : (height : ℕ) (words : List ℕ) → 0 < length words → length words < first_len_of (slice_index words 0)
    → AreWords words → IsWhole (section.Pending height) (1 ∷ length words ∷ words)
packet_whole height words some few are =
    let s = section.Pending height in
    let longest = first_most (slice_index words 0) in
    let most : length words ≤ 11 = omega (arith, few, longest) in
    let counted : AreAllowed s (1 ∷ length words ∷ []) =
    allowed_on s (1 ∷ []) (length words) (allowed_on s [] 1 (none_allowed s) refl refl (omega arith)) refl
    (and_from _ _ (le-leb _ _ some) (le-leb _ _ most)) (omega (arith, most)) in
    record {
      allowed = packet_allowed height (length words) (slice_index words 0) few most [] words are refl
          (omega arith) counted;
      whole = let full : nat_lt (length (1 ∷ length words ∷ words)) (2 + min (length words) 11)
          ≡ false = le-ltb _ _ (omega (arith, most)) in full;
    }

line_whole : (height command color vertex : ℕ) (half : Option ℕ) → IsPending (pending.Poly command color vertex half)
    → AreWords (pending_words (pending.Poly command color vertex half) None)
    → IsWhole (section.Pending height) (pending_words (pending.Poly command color vertex half) None)
line_whole height command color vertex None is are =
    let s = section.Pending height in
    record {
      allowed = allowed_on s (3 ∷ command ∷ color ∷ vertex ∷ []) 0
          (allowed_on s (3 ∷ command ∷ color ∷ []) vertex
          (allowed_on s (3 ∷ command ∷ []) color
          (allowed_on s (3 ∷ []) command
          (allowed_on s [] 3 (none_allowed s) refl refl (omega arith))
          refl (line_command command is.0) are.1.0)
          refl (color_allowed command color is.1) are.1.1.0)
          refl refl are.1.1.1.0)
          refl (zero_allowed (is_set command 28)) (omega arith);
      whole = refl;
    }
line_whole height command color vertex (Some half) is are =
    let s = section.Pending height in
    let shaded : is_set command 28 ≡ true = is.1 in
    record {
      allowed = allowed_on s (3 ∷ command ∷ color ∷ vertex ∷ 1 ∷ []) half
          (allowed_on s (3 ∷ command ∷ color ∷ vertex ∷ []) 1
          (allowed_on s (3 ∷ command ∷ color ∷ []) vertex
          (allowed_on s (3 ∷ command ∷ []) color
          (allowed_on s (3 ∷ []) command
          (allowed_on s [] 3 (none_allowed s) refl refl (omega arith))
          refl (line_command command is.0) are.1.0)
          refl (rw shaded refl) are.1.1.0)
          refl refl are.1.1.1.0)
          refl (shaded_few (is_set command 28) shaded) (omega arith))
          refl (rw is.2 refl) are.1.1.1.1.1.0;
      whole = refl;
    }

pub pending_whole : (height : ℕ) → height ≤ 1024 → (p : Pending) (load : Option Transfer) → IsPending p
    → IsLinked p load
    → IsOpen height load → AreWords (pending_words p load) → IsWhole (section.Pending height) (pending_words p load)
pending_whole height tall pending.Idle load is link job_is are = record {
  allowed = allowed_on (section.Pending height) [] 0 (none_allowed (section.Pending height)) refl refl (omega arith);
  whole = refl;
}
pending_whole height tall (pending.Packet words) load is link job_is are =
    packet_whole height words is.0 is.1 are.1.1
pending_whole height tall (pending.Pixels left) None is link job_is are = absurd link
pending_whole height tall (pending.Pixels left) (Some job) is link job_is are = load_whole height tall job job_is
pending_whole height tall (pending.Poly command color vertex half) load is link job_is are =
    line_whole height command color vertex half is are

-- ---- the running transfer

address_allowed : (w : ℕ) → IsWordAddress w → is_address w ≡ true
address_allowed w is = and_from _ _ (eq-eqb (w % 4) 0 (omega (arith, is))) (lt-ltb w 0x200000 (omega (arith, is)))

address_few : (w : ℕ) → IsWordAddress w → w < 2 ^ 32
address_few w is = omega (arith, is)

flags_most : (a b : Bool) → bit_of a + bit_of b * 2 ≤ 3
flags_most true true = omega arith
flags_most true false = omega arith
flags_most false true = omega arith
flags_most false false = omega arith

pub run_whole : (r : Run) → IsRun r → IsWhole section.Run (run_words r)
run_whole run.Idle is = record {
  allowed = allowed_on section.Run [] 0 (none_allowed section.Run) refl refl (omega arith);
  whole = refl;
}
run_whole (run.Words at left block back to_ram) is =
    let flags = flags_most back to_ram in
    let lefts = is.1.1 in
    let blocks = is.2.1 in
    record {
      allowed = allowed_on section.Run (1 ∷ at ∷ left ∷ block ∷ []) (bit_of back + bit_of to_ram * 2)
          (allowed_on section.Run (1 ∷ at ∷ left ∷ []) block
          (allowed_on section.Run (1 ∷ at ∷ []) left
          (allowed_on section.Run (1 ∷ []) at
          (allowed_on section.Run [] 1 (none_allowed section.Run) refl refl (omega arith))
          refl (address_allowed at is.0) (address_few at is.0))
          refl (and_from _ _ (le-leb _ _ is.1.0) (le-leb _ _ is.1.1)) (omega (arith, lefts)))
          refl (and_from _ _ (le-leb _ _ is.2.0) (le-leb _ _ is.2.1)) (omega (arith, blocks)))
          refl (le-leb _ _ flags) (omega (arith, flags));
      whole = refl;
    }
run_whole (run.List node) is = record {
  allowed = allowed_on section.Run (2 ∷ []) node
      (allowed_on section.Run [] 2 (none_allowed section.Run) refl refl (omega arith))
      refl (address_allowed node is) (address_few node is);
  whole = refl;
}
