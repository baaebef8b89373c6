-- The table of a state: its parts, how many words each has, and which words are allowed there (our own rule).
use Rattle.std.specs.Prelude.{◌≡◌, ◌<◌, ℕ, ◌+◌, ◌-◌, ◌*◌, ◌%◌, min, Bool, true, false, not, List}
use Rattle.std.specs.Prelude.{if◌then◌else◌, nat_lt, nat_le, ◌==◌, ◌&&◌, ◌||◌, ◌^◌, length, slice_index, take}
use Rattle.gp0_words.specs.Kinds.{first_len_of, begins_polyline, is_end, is_set}
use Rattle.px_num.specs.Height.{IsHeight}
use Rattle.gp1_status.specs.Words.{is_allowed}
use Rattle.snapshot_words.specs.declared.section.Section.{Section}
use Rattle.snapshot_words.specs.declared.section.Section.TheVariants as section

abbrev pub is_within : (low high word : ℕ) → Bool
is_within low high word = nat_le low word && nat_le word high

-- the address of a word of main memory
abbrev pub is_address : ℕ → Bool
is_address word = (word % 4 == 0) && nat_lt word 0x200000

-- ---- how many words a part has, by its words so far; a word not read yet counts as 0

-- What is pending, by its kind. 1: a count and as many words. 2: a transfer. 3: a polyline, with the colour of a begun
-- joint if its flag is 1.
abbrev pub need_pending : List ℕ → ℕ
need_pending got =
    if slice_index got 0 == 1 then 2 + min (slice_index got 1) 11 else
    (if slice_index got 0 == 2 then 6 else
    (if slice_index got 0 == 3 then (if slice_index got 4 == 1 then 6 else 5) else 1))

abbrev pub need_store : List ℕ → ℕ
need_store got = if slice_index got 0 == 1 then 6 else 1

abbrev pub need_run : List ℕ → ℕ
need_run got = if slice_index got 0 == 1 then 5 else (if slice_index got 0 == 2 then 2 else 1)

abbrev pub need : Section → List ℕ → ℕ
need section.Front got = 3
need (section.Registers height) got = 13
need (section.Pending height) got = need_pending got
need (section.Store height) got = need_store got
need section.Run got = need_run got

-- the part needs another word
abbrev pub wants : Section → List ℕ → Bool
wants s got = nat_lt (length got) (need s got)

-- ---- which word is allowed after the words of a part so far

-- the height, and the number of events played: its low and its high word
abbrev pub allows_front : List ℕ → ℕ → Bool
allows_front got word =
    if length got == 0 then (word == 512) || (word == 1024) else
    (if length got == 1 then true else nat_lt word 0x80000000)

-- a transfer after one word: x, y, w, h, and the index of its next cell, where a word begins
abbrev pub allows_job : (height : ℕ) → List ℕ → ℕ → Bool
allows_job height got word =
    if length got == 1 then nat_lt word 1024 else
    (if length got == 2 then nat_lt word height else
    (if length got == 3 then is_within 1 1024 word else
    (if length got == 4 then is_within 1 512 word else
    (word % 2 == 0) && nat_lt word (slice_index got 3 * slice_index got 4))))

-- a count, and words of an item that do not complete it
abbrev pub allows_packet : List ℕ → ℕ → Bool
allows_packet got word =
    if length got == 1 then is_within 1 11 word else
    (if length got == 2 then nat_lt 1 (first_len_of word)
    else nat_lt (length got - 1) (first_len_of (slice_index got 2)))

-- command word, colour, vertex, flag, and the colour of a begun joint
abbrev pub allows_line : List ℕ → ℕ → Bool
allows_line got word =
    if length got == 1 then begins_polyline word else
    (if length got == 2 then is_set (slice_index got 1) 28 || (word == slice_index got 1) else
    (if length got == 3 then true else
    (if length got == 4 then (if is_set (slice_index got 1) 28 then nat_le word 1 else word == 0)
    else not (is_end word))))

abbrev pub allows_pending : (height : ℕ) → List ℕ → ℕ → Bool
allows_pending height got word =
    if length got == 0 then nat_le word 3 else
    (if slice_index got 0 == 1 then allows_packet got word else
    (if slice_index got 0 == 2 then allows_job height got word else allows_line got word))

abbrev pub allows_store : (height : ℕ) → List ℕ → ℕ → Bool
allows_store height got word = if length got == 0 then nat_le word 1 else allows_job height got word

-- at, left, block and flags (bit 0 back, bit 1 to main memory)
abbrev pub allows_words : List ℕ → ℕ → Bool
allows_words got word =
    if length got == 1 then is_address word else
    (if length got == 2 then is_within 1 524288 word else
    (if length got == 3 then is_within 1 65536 word else nat_le word 3))

abbrev pub allows_run : List ℕ → ℕ → Bool
allows_run got word =
    if length got == 0 then nat_le word 2 else
    (if slice_index got 0 == 1 then allows_words got word else is_address word)

abbrev pub allows : Section → List ℕ → ℕ → Bool
allows section.Front got word = allows_front got word
allows (section.Registers height) got word = is_allowed height (length got) word
allows (section.Pending height) got word = allows_pending height got word
allows (section.Store height) got word = allows_store height got word
allows section.Run got word = allows_run got word

-- the height is possible
abbrev pub IsSection : Section → Type 0
IsSection section.Front = Unit {0}
IsSection (section.Registers height) = IsHeight height
IsSection (section.Pending height) = IsHeight height
IsSection (section.Store height) = IsHeight height
IsSection section.Run = Unit {0}

-- ---- whole parts

-- every word was needed, and is allowed after the words before it
pub record AreAllowed (s : Section) (words : List ℕ) : Type 0 where
  pub due : (i : ℕ) → i < length words → wants s (take i words) ≡ true
  pub each : (i : ℕ) → i < length words → allows s (take i words) (slice_index words i) ≡ true
  pub fits : (i : ℕ) → i < length words → slice_index words i < 2 ^ 32

-- the words of a whole part
pub record IsWhole (s : Section) (words : List ℕ) : Type 0 where
  pub allowed : AreAllowed s words
  pub whole : wants s words ≡ false
