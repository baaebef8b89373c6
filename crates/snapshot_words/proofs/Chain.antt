-- The parts of a state, one after another.
use Rattle.std.proofs.Common.{◌≡◌, ◌+◌, ◌*◌, ◌++◌, List, [], ◌∷◌, ℕ, Option, length, refl, ap, subst, ◌∙◌}
use Rattle.std.proofs.Common.{append_assoc}
use Rattle.std.proofs.Common.{length-append, arith}
use Rattle.std.proofs.lemmas.Grind.{flat_map-append}
use Rattle.dev_io.specs.Device.{prepended}
use Rattle.dev_io.proofs.Parts.{prepended-nil, taken_on}
use Rattle.gp0_words.specs.declared.pending.Pending.{Pending}
use Rattle.gp1_status.specs.Registers.{Registers}
use Rattle.gp1_status.specs.Words.{words_of, registers_in}
use Rattle.gp1_status.proofs.WordsBack.{registers-again}
use Rattle.gpu_capture.specs.Written.{word_bytes}
use Rattle.gpu_capture.specs.declared.event.Stop.TheVariants.{End, NotCapture, BadRecord, TooLong, Truncated, ReadFault}
use Rattle.gpu_core.specs.Kept.{IsLinked}
use Rattle.list_dma.specs.declared.run.Run.{Run}
use Rattle.vram_copy.specs.declared.transfer.Transfer.{Transfer}
use Rattle.snapshot_words.specs.Outline.{outline_words, bytes_of}
use Rattle.snapshot_words.specs.Reading.{Found, Whole, Short, Bad, found_then, section_from, outline_from}
use Rattle.snapshot_words.specs.Reading.{begun, registers_from, pending_from, store_from, run_from}
use Rattle.snapshot_words.specs.Taking.{Remainder, Takes, SaysFault, Stops, TakesOutline, IsShort, AreNeeded}
use Rattle.snapshot_words.specs.Values.{front_words, height_in, played_in, pending_words, pending_in, load_in}
use Rattle.snapshot_words.specs.Values.{store_words, store_in, run_words, run_in}
use Rattle.snapshot_words.specs.declared.fault.SnapFault.{SnapFault}
use Rattle.snapshot_words.specs.declared.fault.SnapFault.TheVariants as fault
use Rattle.snapshot_words.specs.declared.outline.Outline.{Outline}
use Rattle.snapshot_words.specs.declared.section.Section.{Section}
use Rattle.snapshot_words.specs.declared.section.Section.TheVariants as section
use Rattle.snapshot_words.proofs.Back.{played_back, pending_back, load_back, store_back, run_back}
use Rattle.snapshot_words.proofs.Gathering.{needed_on}

-- The words of a state so far were read. Whatever follows them, reading continues at the new offset with `next`.
pub record Came (before now : Remainder) (got : List ℕ) (next : ℕ → List ℕ → Found Outline) : Type 0 where
  pub bytes : before.left ≡ prepended (bytes_of got) now.left
  pub needed : AreNeeded (outline_from before.offset) (bytes_of got)
  pub moved : now.offset ≡ before.offset + 4 * length got
  pub says : (rest : List ℕ) → outline_from before.offset (bytes_of got ++ rest) ≡ next now.offset rest

-- needed bytes were read that mean this fault of a state
abbrev StopsAll : Remainder → Option (List ℕ) → SnapFault → Type 0
StopsAll before now why = Stops (outline_from before.offset) before.left now why

-- the same for one part
abbrev StopsIn : Section → Remainder → Option (List ℕ) → SnapFault → Type 0
StopsIn s before now why = Stops (section_from s [] before.offset) before.left now why

bytes_both : (a b : List ℕ) → bytes_of (a ++ b) ≡ bytes_of a ++ bytes_of b
bytes_both a b = flat_map-append word_bytes a b

-- the meaning of one part, and of the bytes after it
abbrev pub part_then : Section → (List ℕ → ℕ → List ℕ → Found Outline) → ℕ → List ℕ → Found Outline
part_then s next offset bytes = found_then (section_from s [] offset bytes) next

pub short_then : {A B : Type 0} (found : Found A) (next : A → ℕ → List ℕ → Found B) → IsShort found
    → IsShort (found_then found next)
short_then (Whole value offset rest) next short = absurd short
short_then (Short offset) next short = tt
short_then (Bad offset word) next short = absurd short

-- ---- any part

module _ (s : Section) (next : List ℕ → ℕ → List ℕ → Found Outline) (before mid : Remainder) (got : List ℕ)
    (came : Came before mid got (part_then s next)) where
  needed_after : (taken : List ℕ) → AreNeeded (section_from s [] mid.offset) taken
      → AreNeeded (outline_from before.offset) (bytes_of got ++ taken)
  needed_after taken needed =
      needed_on (outline_from before.offset) (bytes_of got) taken came.needed
      (λ part more is some.
      rw (came.says part) (short_then (section_from s [] mid.offset part) next (needed part more is some)))

  pub came_on : (now : Remainder) (words : List ℕ) → Takes s mid now words → Came before now (got ++ words) (next words)
  came_on now words takes = record {
    bytes = rw (bytes_both got words)
        (taken_on before.left mid.left now.left (bytes_of got) (bytes_of words) came.bytes takes.bytes);
    needed = rw (bytes_both got words) (needed_after (bytes_of words) takes.needed);
    moved = let a = length-append got words in let b = came.moved in let c = takes.moved in omega (arith, a, b, c);
    says = λ rest. rw (bytes_both got words, append_assoc (bytes_of got) (bytes_of words) rest)
        (came.says (bytes_of words ++ rest) ∙ ap (λ found. found_then found next) (takes.says rest));
  }

  stops_says : (why : SnapFault) (taken : List ℕ) (now : Option (List ℕ))
      → SaysFault why (section_from s [] mid.offset) taken now
      → SaysFault why (outline_from before.offset) (bytes_of got ++ taken) now
  stops_says (fault.Bad byte word) taken now says =
      λ rest. rw (append_assoc (bytes_of got) taken rest)
      (came.says (taken ++ rest) ∙ ap (λ found. found_then found next) (says rest))
  stops_says (fault.Stop (Truncated byte)) taken now says =
      (came.says taken ∙ ap (λ found. found_then found next) says.0, says.1)
  stops_says (fault.Stop (ReadFault byte)) taken now says =
      came.says taken ∙ ap (λ found. found_then found next) says
  stops_says (fault.Stop End) taken now says = absurd says
  stops_says (fault.Stop (NotCapture byte)) taken now says = absurd says
  stops_says (fault.Stop (BadRecord byte word)) taken now says = absurd says
  stops_says (fault.Stop (TooLong byte)) taken now says = absurd says

  pub came_stops : (now : Option (List ℕ)) (why : SnapFault) → StopsIn s mid now why → StopsAll before now why
  came_stops now why stops = record {
    taken = bytes_of got ++ stops.taken;
    bytes = taken_on before.left mid.left now (bytes_of got) stops.taken came.bytes stops.bytes;
    needed = needed_after stops.taken stops.needed;
    says = stops_says why stops.taken now stops.says;
  }

-- ---- the parts of a state

-- after the front, by its words
abbrev following_front : List ℕ → ℕ → List ℕ → Found Outline
following_front words = registers_from (height_in words) (played_in words)

-- before it nothing was read
none_came : (at : Remainder) → Came at at [] (part_then section.Front following_front)
unfolding outline_from
none_came at = record {
  bytes = prepended-nil at.left;
  needed = none_needed;
  moved = omega arith;
  says = λ rest. refl;
}
  where
    none_needed : AreNeeded (outline_from at.offset) []
    none_needed [] [] is some = absurd (some refl)
    none_needed [] (x ∷ xs) is some = absurd cc
    none_needed (x ∷ xs) more is some = absurd cc

pub came_front : (before now : Remainder) (height played : ℕ)
    → Takes section.Front before now (front_words height played)
    → Came before now (front_words height played) (registers_from height played)
came_front before now height played takes =
    subst (λ n. Came before now (front_words height played) (registers_from height n)) (played_back height played)
    (came_on section.Front following_front before before [] (none_came before) now (front_words height played) takes)

pub front_stops : (before : Remainder) (now : Option (List ℕ)) (why : SnapFault)
    → Stops (section_from section.Front [] before.offset) before.left now why
    → Stops (outline_from before.offset) before.left now why
front_stops before now why stops =
    came_stops section.Front following_front before before [] (none_came before) now why stops

-- after the registers, by their words, and so on
abbrev with_registers : (height played : ℕ) → List ℕ → ℕ → List ℕ → Found Outline
with_registers height played words = pending_from (begun played (registers_in height words))

abbrev with_pending : Outline → List ℕ → ℕ → List ℕ → Found Outline
with_pending o words = store_from (record o { pending = pending_in words; load = load_in words })

abbrev with_store : Outline → List ℕ → ℕ → List ℕ → Found Outline
with_store o words = run_from (record o { store = store_in words })

abbrev with_run : Outline → List ℕ → ℕ → List ℕ → Found Outline
with_run o words = Whole (record o { run = run_in words })

module _ (before mid now : Remainder) (got : List ℕ) where
  came_registers : (height played : ℕ) (regs : Registers) → regs.height ≡ height
      → Came before mid got (registers_from height played)
      → Takes (section.Registers height) mid now (words_of regs)
      → Came before now (got ++ words_of regs) (pending_from (begun played regs))
  came_registers height played regs same came takes =
      let again : registers_in height (words_of regs) ≡ regs = rw (← same) (registers-again regs) in
      subst (λ r. Came before now (got ++ words_of regs) (pending_from (begun played r))) again
      (came_on (section.Registers height) (with_registers height played) before mid got came now (words_of regs) takes)

  came_pending : (o : Outline) (p : Pending) (load : Option Transfer) → IsLinked p load
      → Came before mid got (pending_from o)
      → Takes (section.Pending o.regs.height) mid now (pending_words p load)
      → Came before now (got ++ pending_words p load) (store_from (record o { pending = p; load = load }))
  came_pending o p load link came takes =
      let words = pending_words p load in
      subst (λ q. Came before now (got ++ words) (store_from (record o { pending = q; load = load })))
      (pending_back p load link)
      (subst (λ l. Came before now (got ++ words) (store_from (record o { pending = pending_in words; load = l })))
      (load_back p load link)
      (came_on (section.Pending o.regs.height) (with_pending o) before mid got came now words takes))

  came_store : (o : Outline) (store : Option Transfer) → Came before mid got (store_from o)
      → Takes (section.Store o.regs.height) mid now (store_words store)
      → Came before now (got ++ store_words store) (run_from (record o { store = store }))
  came_store o store came takes =
      subst (λ s. Came before now (got ++ store_words store) (run_from (record o { store = s }))) (store_back store)
      (came_on (section.Store o.regs.height) (with_store o) before mid got came now (store_words store) takes)

  came_run : (o : Outline) (r : Run) → Came before mid got (run_from o) → Takes section.Run mid now (run_words r)
      → Came before now (got ++ run_words r) (Whole (record o { run = r }))
  came_run o r came takes =
      subst (λ run. Came before now (got ++ run_words r) (Whole (record o { run = run }))) (run_back r)
      (came_on section.Run (with_run o) before mid got came now (run_words r) takes)

words_joined : (o : Outline)
    → front_words o.regs.height o.played ++ words_of o.regs ++ pending_words o.pending o.load ++ store_words o.store
    ++ run_words o.run
    ≡ outline_words o
unfolding outline_words
words_joined o = refl

outline_came : (before now : Remainder) (got : List ℕ) (o : Outline) → got ≡ outline_words o
    → Came before now got (Whole o) → TakesOutline before.left now.left before.offset now.offset o
outline_came before now got o is came = record {
  bytes = rw (← is) came.bytes;
  needed = rw (← is) came.needed;
  moved = rw (← is) came.moved;
  says = rw (← is) came.says;
}

-- ---- all parts

-- the parts read so far, up to a fault in the next one or to the end
module _ (before after_front : Remainder) (height played : ℕ)
    (front : Takes section.Front before after_front (front_words height played)) where
  front_came : Came before after_front (front_words height played) (registers_from height played)
  front_came = came_front before after_front height played front

  pub registers_stop : (now : Option (List ℕ)) (why : SnapFault)
      → StopsIn (section.Registers height) after_front now why → StopsAll before now why
  registers_stop now why stops =
      came_stops (section.Registers height) (with_registers height played) before after_front
      (front_words height played) front_came now why stops

  module _ (after_regs : Remainder) (regs : Registers) (same : regs.height ≡ height)
      (registers : Takes (section.Registers height) after_front after_regs (words_of regs)) where
    registers_came : Came before after_regs (front_words height played ++ words_of regs)
        (pending_from (begun played regs))
    registers_came = came_registers before after_front after_regs (front_words height played) height played regs same
        front_came registers

    pub pending_stop : (now : Option (List ℕ)) (why : SnapFault) → StopsIn (section.Pending height) after_regs now why
        → StopsAll before now why
    pending_stop now why stops =
        came_stops (section.Pending regs.height) (with_pending (begun played regs)) before after_regs
        (front_words height played ++ words_of regs) registers_came now why (rw same stops)

    module _ (after_pending : Remainder) (p : Pending) (load : Option Transfer) (link : IsLinked p load)
        (pendings : Takes (section.Pending height) after_regs after_pending (pending_words p load)) where
      -- what was read so far
      abbrev linked : Outline
      linked = record (begun played regs) { pending = p; load = load }

      pending_came : Came before after_pending (front_words height played ++ words_of regs ++ pending_words p load)
          (store_from linked)
      pending_came =
          came_pending before after_regs after_pending (front_words height played ++ words_of regs)
          (begun played regs) p load link registers_came (rw same pendings)

      pub store_stop : (now : Option (List ℕ)) (why : SnapFault)
          → StopsIn (section.Store height) after_pending now why → StopsAll before now why
      store_stop now why stops =
          came_stops (section.Store regs.height) (with_store linked) before after_pending
          (front_words height played ++ words_of regs ++ pending_words p load) pending_came now why (rw same stops)

      module _ (after_store : Remainder) (store : Option Transfer)
          (stores : Takes (section.Store height) after_pending after_store (store_words store)) where
        store_came : Came before after_store
            (front_words height played ++ words_of regs ++ pending_words p load ++ store_words store)
            (run_from (record linked { store = store }))
        store_came =
            came_store before after_pending after_store
            (front_words height played ++ words_of regs ++ pending_words p load) linked store pending_came
            (rw same stores)

        pub run_stop : (now : Option (List ℕ)) (why : SnapFault) → StopsIn section.Run after_store now why
            → StopsAll before now why
        run_stop now why stops =
            came_stops section.Run (with_run (record linked { store = store })) before after_store
            (front_words height played ++ words_of regs ++ pending_words p load ++ store_words store)
            store_came now why stops

        pub all_came : (now : Remainder) (r : Run) → Takes section.Run after_store now (run_words r)
            → TakesOutline before.left now.left before.offset now.offset (record linked { store = store; run = r })
        all_came now r takes =
            let o : Outline = record linked { store = store; run = r } in
            outline_came before now
            (front_words height played ++ words_of regs ++ pending_words p load ++ store_words store ++ run_words r) o
            (subst (λ h.
            (front_words h played ++ words_of regs ++ pending_words p load ++ store_words store ++ run_words r)
            ≡ outline_words o) same (words_joined o))
            (came_run before after_store now
            (front_words height played ++ words_of regs ++ pending_words p load ++ store_words store)
            (record linked { store = store }) r store_came takes)
