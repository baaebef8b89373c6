-- The bytes that are read as a state are its encoding, and no others.
use Rattle.std.proofs.Common.{◌≡◌, ◌<◌, ◌+◌, ◌*◌, ◌^◌, ◌++◌, inl, inr, List, [], ◌∷◌, ℕ, suc, false}
use Rattle.std.proofs.Common.{length}
use Rattle.std.proofs.Common.{slice_index, refl, sym, ap, subst, ◌∙◌, append_assoc, append-nil, length-append, arith}
use Rattle.std.proofs.lemmas.Bool.{cases_Bool}
use Rattle.std.proofs.lemmas.Grind.{flat_map-append}
use Rattle.byteorder.specs.Endian.{little_number}
use Rattle.gp1_status.specs.Words.{words_of, registers_in, AreAllowed as RegisterBits}
use Rattle.gpu_capture.specs.Whole.{AreWords}
use Rattle.gpu_capture.specs.Written.{word_bytes}
use Rattle.snapshot_words.specs.Laws.{AreBytes, IsSpelled}
use Rattle.snapshot_words.specs.Outline.{IsOutline, outline_words, bytes_of}
use Rattle.snapshot_words.specs.Reading.{Found, Whole, Short, Bad, found_then, section_from, outline_from}
use Rattle.snapshot_words.specs.Reading.{begun, registers_from, pending_from, store_from, run_from}
use Rattle.snapshot_words.specs.Sections.{wants, allows, AreAllowed, IsWhole}
use Rattle.snapshot_words.specs.Values.{height_in, played_in, pending_words, pending_in, load_in}
use Rattle.snapshot_words.specs.Values.{store_words, store_in, run_words, run_in}
use Rattle.snapshot_words.specs.declared.outline.Outline.{Outline}
use Rattle.snapshot_words.specs.declared.section.Section.{Section}
use Rattle.snapshot_words.specs.declared.section.Section.TheVariants as section
use Rattle.snapshot_words.proofs.Gathering.{whole_stays, breaks_off, number_of_bytes, next_word, bad_word}
use Rattle.snapshot_words.proofs.Gathering.{none_allowed, allowed_on}
use Rattle.snapshot_words.proofs.Pendings.{pending_is, run_is}
use Rattle.snapshot_words.proofs.Shapes.{front_is, registers_are, store_is}

-- ---- the meaning of bytes

abbrev value_or : {A : Type 0} → A → Found A → A
value_or a (Whole value offset rest) = value
value_or a (Short offset) = a
value_or a (Bad offset word) = a

abbrev offset_or : {A : Type 0} → Found A → ℕ
offset_or (Whole value offset rest) = offset
offset_or (Short offset) = 0
offset_or (Bad offset word) = 0

abbrev rest_or : {A : Type 0} → Found A → List ℕ
rest_or (Whole value offset rest) = rest
rest_or (Short offset) = []
rest_or (Bad offset word) = []

-- `found` is a whole value, and `all` is the meaning of the bytes after it
record After {A B : Type 0} (found : Found A) (next : A → ℕ → List ℕ → Found B) (all : Found B) : Type 0 where
  value : A
  offset : ℕ
  rest : List ℕ
  was : found ≡ Whole value offset rest
  after : next value offset rest ≡ all

then_from : {A B : Type 0} (found : Found A) (next : A → ℕ → List ℕ → Found B) (b : B) (offset : ℕ) (rest : List ℕ)
    → found_then found next ≡ Whole b offset rest → After found next (Whole b offset rest)
then_from (Whole value at left) next b offset rest e =
    record { value = value; offset = at; rest = left; was = refl; after = e }
then_from (Short at) next b offset rest e = absurd cc
then_from (Bad at word) next b offset rest e = absurd cc

-- ---- one part

record ReadFrom (s : Section) (got words : List ℕ) (first offset : ℕ) (bytes rest : List ℕ) : Type 0 where
  more : List ℕ
  joined : words ≡ got ++ more
  spelled : bytes ≡ bytes_of more ++ rest
  moved : offset ≡ first + 4 * length more
  whole : IsWhole s words

full_from : (s : Section) (got words : List ℕ) (first offset : ℕ) (bytes rest : List ℕ) → AreAllowed s got
    → wants s got ≡ false
    → section_from s got first bytes ≡ Whole words offset rest → ReadFrom s got words first offset bytes rest
full_from s got words first offset bytes rest allowed full e =
    let same : Whole got first bytes ≡ Whole words offset rest = sym (whole_stays s got first bytes full) ∙ e in
    let value : got ≡ words = ap (value_or got) same in
    let at : first ≡ offset = ap offset_or same in
    let left : bytes ≡ rest = ap rest_or same in
    record {
      more = [];
      joined = sym value ∙ sym (append-nil got);
      spelled = left;
      moved = omega (arith, at);
      whole = subst (IsWhole s) value (record { allowed = allowed; whole = full });
    }

module _ (s : Section) (words : List ℕ) (offset : ℕ) (rest : List ℕ) where
  short_from : (got : List ℕ) (first : ℕ) (bytes : List ℕ) → length bytes < 4 → AreAllowed s got
      → section_from s got first bytes ≡ Whole words offset rest → ReadFrom s got words first offset bytes rest
  short_from got first bytes few allowed e =
      elim (cases_Bool (wants s got)) [
        | inl due ↦ absurd (let f = sym (breaks_off s got first bytes due few) ∙ e in cc)
        | inr full ↦ full_from s got words first offset bytes rest allowed full e
      ]

  -- after one more word
  on_from : (got : List ℕ) (word first : ℕ) (bytes left : List ℕ) → bytes ≡ word_bytes word ++ left
      → ReadFrom s (got ++ word ∷ []) words (first + 4) offset left rest → ReadFrom s got words first offset bytes rest
  on_from got word first bytes left is from =
      let moved = from.moved in
      record {
        more = word ∷ from.more;
        joined = from.joined ∙ append_assoc got (word ∷ []) from.more;
        spelled = is ∙ ap (λ b. word_bytes word ++ b) from.spelled
            ∙ sym (append_assoc (word_bytes word) (bytes_of from.more) rest);
        moved = omega (arith, moved);
        whole = from.whole;
      }

  part_from : (got : List ℕ) (first : ℕ) (bytes : List ℕ) → AreBytes bytes → AreAllowed s got
      → section_from s got first bytes ≡ Whole words offset rest → ReadFrom s got words first offset bytes rest
  part_from got first [] are allowed e = short_from got first [] (omega arith) allowed e
  part_from got first (a ∷ []) are allowed e = short_from got first (a ∷ []) (omega arith) allowed e
  part_from got first (a ∷ b ∷ []) are allowed e = short_from got first (a ∷ b ∷ []) (omega arith) allowed e
  part_from got first (a ∷ b ∷ c ∷ []) are allowed e = short_from got first (a ∷ b ∷ c ∷ []) (omega arith) allowed e
  part_from got first (a ∷ b ∷ c ∷ d ∷ left) are allowed e =
      let word = little_number 4 (a ∷ b ∷ c ∷ d ∷ []) in
      let p = are.0 in let q = are.1.0 in let r = are.1.1.0 in let t = are.1.1.1.0 in
      let fits : word < 2 ^ 32 = omega (arith, p, q, r, t) in
      let spelled : word_bytes word ≡ a ∷ b ∷ c ∷ d ∷ [] = number_of_bytes a b c d p q r t in
      let bytes : a ∷ b ∷ c ∷ d ∷ left ≡ word_bytes word ++ left = ap (λ w. w ++ left) (sym spelled) in
      let read = sym (ap (section_from s got first) bytes) ∙ e in
      elim (cases_Bool (wants s got)) [
        | inr full ↦ full_from s got words first offset (a ∷ b ∷ c ∷ d ∷ left) rest allowed full e
        | inl due ↦
            elim (cases_Bool (allows s got word)) [
              | inr bad ↦ absurd (let f = sym (bad_word s got first word left due bad fits) ∙ read in cc)
              | inl may ↦
                  on_from got word first (a ∷ b ∷ c ∷ d ∷ left) left bytes
                  (part_from (got ++ word ∷ []) (first + 4) left are.1.1.1.1
                  (allowed_on s got word allowed due may fits)
                  (sym (next_word s got first word left due may fits) ∙ read))
            ]
      ]

-- ---- bytes and words

bytes_right : (a b : List ℕ) → AreBytes (a ++ b) → AreBytes b
bytes_right [] b are = are
bytes_right (x ∷ a) b are = bytes_right a b are.1

words_each : (words : List ℕ) → ((i : ℕ) → i < length words → slice_index words i < 2 ^ 32) → AreWords words
words_each [] each = tt
words_each (w ∷ words) each = (each 0 (omega arith), words_each words (λ i h. each (suc i) (omega (arith, h))))

words_both : (a b : List ℕ) → AreWords a → AreWords b → AreWords (a ++ b)
words_both [] b x y = y
words_both (w ∷ a) b x y = (x.0, words_both a b x.1 y)

bytes_both : (a b : List ℕ) → bytes_of (a ++ b) ≡ bytes_of a ++ bytes_of b
bytes_both a b = flat_map-append word_bytes a b

-- ---- parts one after another

record Read (s : Section) (words : List ℕ) (first offset : ℕ) (bytes rest : List ℕ) : Type 0 where
  spelled : bytes ≡ bytes_of words ++ rest
  moved : offset ≡ first + 4 * length words
  whole : IsWhole s words
  bytes_left : AreBytes rest

read_part : (s : Section) (words : List ℕ) (first offset : ℕ) (bytes rest : List ℕ) → AreBytes bytes
    → section_from s [] first bytes ≡ Whole words offset rest → Read s words first offset bytes rest
read_part s words first offset bytes rest are e =
    let from = part_from s words offset rest [] first bytes are (none_allowed s) e in
    let same : words ≡ from.more = from.joined in
    let spelled : bytes ≡ bytes_of words ++ rest = rw same from.spelled in
    record {
      spelled = spelled;
      moved = rw same from.moved;
      whole = from.whole;
      bytes_left = bytes_right (bytes_of words) rest (subst AreBytes spelled are);
    }

joined : (got words bytes left rest : List ℕ) → bytes ≡ bytes_of got ++ left → left ≡ bytes_of words ++ rest
    → bytes ≡ bytes_of (got ++ words) ++ rest
joined got words bytes left rest is next =
    is ∙ ap (λ r. bytes_of got ++ r) next ∙ sym (append_assoc (bytes_of got) (bytes_of words) rest)
    ∙ ap (λ b. b ++ rest) (sym (bytes_both got words))

-- the values of these words
abbrev outline_in : (a b c d e : List ℕ) → Outline
outline_in a b c d e = record {
  played = played_in a;
  regs = registers_in (height_in a) b;
  pending = pending_in c;
  load = load_in c;
  store = store_in d;
  run = run_in e;
}

module _ (a b c d e : List ℕ) (whole_a : IsWhole section.Front a) (whole_b : IsWhole (section.Registers
    (height_in a)) b)
    (whole_c : IsWhole (section.Pending (height_in a)) c) (whole_d : IsWhole (section.Store (height_in a)) d)
    (whole_e : IsWhole section.Run e) where
  all_spelled : outline_words (outline_in a b c d e) ≡ (((a ++ b) ++ c) ++ d) ++ e
  unfolding outline_words
  all_spelled =
      let front = front_is a whole_a in
      let registers = registers_are (height_in a) b whole_b in
      let pendings = pending_is (height_in a) c whole_c in
      let stores = store_is (height_in a) d whole_d in
      let runs = run_is e whole_e in
      ap (λ x. (((x ++ words_of (registers_in (height_in a) b)) ++ pending_words (pending_in c)
      (load_in c)) ++ store_words (store_in d))
      ++ run_words (run_in e)) front.spelled
      ∙ ap (λ x. (((a ++ x) ++ pending_words (pending_in c) (load_in c)) ++ store_words (store_in d)) ++ run_words
      (run_in e)) registers.spelled
      ∙ ap (λ x. (((a ++ b) ++ x) ++ store_words (store_in d)) ++ run_words (run_in e)) pendings.spelled
      ∙ ap (λ x. (((a ++ b) ++ c) ++ x) ++ run_words (run_in e)) stores.spelled
      ∙ ap (λ x. (((a ++ b) ++ c) ++ d) ++ x) runs.spelled

  all_bounds : IsOutline (outline_in a b c d e)
  all_bounds =
      let front = front_is a whole_a in
      let registers = registers_are (height_in a) b whole_b in
      let pendings = pending_is (height_in a) c whole_c in
      let stores = store_is (height_in a) d whole_d in
      let runs = run_is e whole_e in
      record {
        few = front.few;
        height = front.height;
        bits = subst (RegisterBits (height_in a)) (sym registers.spelled) registers.bits;
        pending = pendings.bounds;
        link = pendings.link;
        load = pendings.load;
        store = stores.bounds;
        run = runs.bounds;
      }

  all_fit : AreWords (outline_words (outline_in a b c d e))
  all_fit =
      subst AreWords (sym all_spelled)
      (words_both (((a ++ b) ++ c) ++ d) e
      (words_both ((a ++ b) ++ c) d
      (words_both (a ++ b) c
      (words_both a b (words_each a whole_a.allowed.fits) (words_each b whole_b.allowed.fits))
      (words_each c whole_c.allowed.fits))
      (words_each d whole_d.allowed.fits))
      (words_each e whole_e.allowed.fits))

spelled_as : (o : Outline) (words : List ℕ) (first offset : ℕ) (bytes rest : List ℕ) → words ≡ outline_words o
    → bytes ≡ bytes_of words ++ rest → offset ≡ first + 4 * length words → IsOutline o → AreWords (outline_words o)
    → IsSpelled o first offset bytes rest
spelled_as o words first offset bytes rest is spelled moved bounds fit = record {
  spelled = subst (λ w. bytes ≡ bytes_of w ++ rest) is spelled;
  moved = subst (λ w. offset ≡ first + 4 * length w) is moved;
  bounds = bounds;
  words = fit;
}

pub one_spelling : (o : Outline) (first offset : ℕ) (bytes rest : List ℕ) → AreBytes bytes
    → outline_from first bytes ≡ Whole o offset rest → IsSpelled o first offset bytes rest
unfolding outline_from
one_spelling o first offset bytes rest are found =
    let f1 =
    then_from (section_from section.Front [] first bytes) (λ words. registers_from (height_in words)
    (played_in words)) o offset rest found in
    let a = f1.value in
    let h = height_in a in
    let r1 = read_part section.Front a first f1.offset bytes f1.rest are f1.was in
    let f2 =
    then_from (section_from (section.Registers h) [] f1.offset f1.rest) (λ words. pending_from
    (begun (played_in a) (registers_in h words))) o offset rest f1.after in
    let b = f2.value in
    let r2 = read_part (section.Registers h) b f1.offset f2.offset f1.rest f2.rest r1.bytes_left f2.was in
    let first_parts = begun (played_in a) (registers_in h b) in
    let f3 =
    then_from (section_from (section.Pending h) [] f2.offset f2.rest) (λ words. store_from
    (record first_parts { pending = pending_in words; load = load_in words })) o offset rest f2.after in
    let c = f3.value in
    let r3 = read_part (section.Pending h) c f2.offset f3.offset f2.rest f3.rest r2.bytes_left f3.was in
    let f4 =
    then_from (section_from (section.Store h) [] f3.offset f3.rest) (λ words. run_from
    (record first_parts { pending = pending_in c; load = load_in c; store = store_in words })) o offset rest f3.after in
    let d = f4.value in
    let r4 = read_part (section.Store h) d f3.offset f4.offset f3.rest f4.rest r3.bytes_left f4.was in
    let f5 =
    then_from (section_from section.Run [] f4.offset f4.rest) (λ words. Whole
    (outline_in a b c d words)) o offset rest f4.after in
    let e = f5.value in
    let r5 = read_part section.Run e f4.offset f5.offset f4.rest f5.rest r4.bytes_left f5.was in
    let made : outline_in a b c d e ≡ o = ap (value_or o) f5.after in
    let at : f5.offset ≡ offset = ap offset_or f5.after in
    let left : f5.rest ≡ rest = ap rest_or f5.after in
    let m1 = r1.moved in let m2 = r2.moved in let m3 = r3.moved in let m4 = r4.moved in let m5 = r5.moved in
    let n2 = length-append a b in let n3 = length-append (a ++ b) c in
    let n4 = length-append ((a ++ b) ++ c) d in let n5 = length-append (((a ++ b) ++ c) ++ d) e in
    let spelled : bytes ≡ bytes_of ((((a ++ b) ++ c) ++ d) ++ e) ++ f5.rest =
    joined (((a ++ b) ++ c) ++ d) e bytes f4.rest f5.rest
    (joined ((a ++ b) ++ c) d bytes f3.rest f4.rest
    (joined (a ++ b) c bytes f2.rest f3.rest
    (joined a b bytes f1.rest f2.rest r1.spelled r2.spelled) r3.spelled) r4.spelled) r5.spelled in
    subst (λ o. IsSpelled o first offset bytes rest) made
    (spelled_as (outline_in a b c d e) ((((a ++ b) ++ c) ++ d) ++ e) first offset bytes rest
    (sym (all_spelled a b c d e r1.whole r2.whole r3.whole r4.whole r5.whole))
    (subst (λ r. bytes ≡ bytes_of ((((a ++ b) ++ c) ++ d) ++ e) ++ r) left spelled)
    (omega (arith, m1, m2, m3, m4, m5, n2, n3, n4, n5, at))
    (all_bounds a b c d e r1.whole r2.whole r3.whole r4.whole r5.whole)
    (all_fit a b c d e r1.whole r2.whole r3.whole r4.whole r5.whole))
