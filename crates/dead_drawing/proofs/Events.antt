-- Events in two states that agree except in some cells.
use Rattle.std.proofs.Common.{◌≡◌, ℕ, List, [], ◌∷◌, ◌++◌, Option, None, Some, is_some, Bool, true, false, cond}
use Rattle.std.proofs.Common.{length, refl, sym, ap, ◌∙◌, subst}
use Rattle.gp0_words.specs.Items.{pending_behind}
use Rattle.gp0_words.specs.Next.{next_item, next_pending}
use Rattle.gp0_words.specs.declared.item.Item.{Item}
use Rattle.gp0_words.specs.declared.pending.Pending.{Pending}
use Rattle.gp0_words.proofs.Cut.{items_of-push, pending_behind-push}
use Rattle.gp0_packets.specs.Packets.{packet_of}
use Rattle.gp1_status.specs.Registers.{Registers, gp1_of, is_clearing, status_of}
use Rattle.gpu_capture.specs.declared.event.Event.{Event}
use Rattle.gpu_capture.specs.declared.event.Event.TheVariants as event
use Rattle.gpu_core.specs.Machine.{Parts, State, after_gp0, after_gp1, after_read, read_word, status_word}
use Rattle.gpu_core.specs.Machine.{is_idle_state, after_item, effect_of}
use Rattle.gpu_core.specs.Machine.{cleared, is_idle, new_item, taken_from}
use Rattle.gpu_core.proofs.States.{new_item-is}
use Rattle.vram_copy.specs.declared.transfer.Transfer.{Transfer}
use Rattle.dead_drawing.specs.Calm.{IsCalmItem, IsCalmAt, AreCalm}
use Rattle.dead_drawing.specs.States.{PartsAlike, Alike, Same}
use Rattle.dead_drawing.specs.Run.{after, shown_at, run, told}
use Rattle.dead_drawing.proofs.Effects.{effect_alike, effect_long}

-- ---- words

-- The item that a word completes depends only on what is pending.
pub new_is : (words : List ℕ) (word : ℕ) → new_item words word ≡ next_item (pending_behind words) word
new_is words word = new_item-is words word (next_item (pending_behind words) word) (items_of-push words word)

pub same_item : (words other : List ℕ) (word : ℕ) → pending_behind other ≡ pending_behind words
    → new_item other word ≡ new_item words word
same_item words other word same = new_is other word ∙ ap (λ (r : Pending). next_item r word) same
    ∙ sym (new_is words word)

pub same_rest : (words other : List ℕ) (word : ℕ) → pending_behind other ≡ pending_behind words
    → pending_behind (other ++ word ∷ []) ≡ pending_behind (words ++ word ∷ [])
same_rest words other word same = pending_behind-push other word ∙ ap (λ (r : Pending). next_pending r word) same
    ∙ sym (pending_behind-push words word)

item_alike : (among : ℕ → Type 0) (p q : Parts) (item : Option Item) → IsCalmItem p.regs.height item
    → PartsAlike among p q
    → PartsAlike among (after_item p item) (after_item q item)
item_alike among p q None calm h = h
item_alike among p q (Some item) calm h =
    subst (λ (r : Registers). PartsAlike among (effect_of p (packet_of p.regs.height item))
    (effect_of q (packet_of r.height item))) (sym h.regs)
    (effect_alike among p q (packet_of p.regs.height item) calm h)

feed_alike : (among : ℕ → Type 0) (s t : State) (word : ℕ) → IsCalmItem s.parts.regs.height (new_item s.words word)
    → Alike among s t → Alike among (after_gp0 s word) (after_gp0 t word)
unfolding after_gp0
feed_alike among s t word calm h = record {
  parts = subst
      (λ (item : Option Item). PartsAlike among (after_item s.parts (new_item s.words word))
      (after_item t.parts item)) (sym (same_item s.words t.words word h.rest))
      (item_alike among s.parts t.parts (new_item s.words word) calm h.parts);
  rest = same_rest s.words t.words word h.rest;
}

gp1_alike : (among : ℕ → Type 0) (s t : State) (word : ℕ) → Alike among s t
    → Alike among (after_gp1 s word) (after_gp1 t word)
unfolding after_gp1
gp1_alike among s t word h = by_test (is_clearing word)
  where
    by_test : (b : Bool) → Alike among
        (cond b (record { parts = cleared (record s.parts { regs = gp1_of s.parts.regs word }); words = [] })
        (record { parts = record s.parts { regs = gp1_of s.parts.regs word }; words = s.words }))
        (cond b (record { parts = cleared (record t.parts { regs = gp1_of t.parts.regs word }); words = [] })
        (record { parts = record t.parts { regs = gp1_of t.parts.regs word }; words = t.words }))
    by_test true = record {
      parts = record {
        cells = h.parts.cells;
        regs = ap
            (λ (r : Registers). gp1_of r word) h.parts.regs;
        load = refl;
        store = refl;
      };
      rest = refl;
    }
    by_test false = record {
      parts = record {
        cells = h.parts.cells;
        regs = ap
            (λ (r : Registers). gp1_of r word) h.parts.regs;
        load = h.parts.load;
        store = h.parts.store;
      };
      rest = h.rest;
    }

-- The status word does not depend on any cell.
pub same_status : (s t : State) → t.parts.regs ≡ s.parts.regs → t.parts.store ≡ s.parts.store
    → pending_behind t.words ≡ pending_behind s.words → status_word t ≡ status_word s
unfolding status_word is_idle_state
same_status s t regs store rest =
    ap (λ (r : Registers). status_of r (is_idle (pending_behind t.words)) (is_some t.parts.store)) regs
    ∙ ap (λ (p : Pending). status_of s.parts.regs (is_idle p) (is_some t.parts.store)) rest
    ∙ ap (λ (job : Option Transfer). status_of s.parts.regs (is_idle (pending_behind s.words)) (is_some job)) store

pub event_alike : (among : ℕ → Type 0) (s t : State) (e : Event) → IsCalmAt s e → Alike among s t
    → Alike among (after s e) (after t e)
unfolding after
event_alike among s t (event.Gp0 word) calm h = feed_alike among s t word calm h
event_alike among s t (event.Gp1 word) calm h = gp1_alike among s t word h
event_alike among s t event.Stat calm h = h
event_alike among s t event.Read calm h = absurd calm
event_alike among s t event.Skip calm h = absurd calm
event_alike among s t (event.Ram address word) calm h = absurd calm
event_alike among s t (event.Dma channel madr bcr chcr) calm h = absurd calm
event_alike among s t (event.Begin madr bcr chcr) calm h = absurd calm
event_alike among s t event.Turn calm h = absurd calm

pub shown_alike : (among : ℕ → Type 0) (s t : State) (e : Event) → IsCalmAt s e → Alike among s t
    → shown_at t e ≡ shown_at s e
unfolding shown_at
shown_alike among s t (event.Gp0 word) calm h = refl
shown_alike among s t (event.Gp1 word) calm h = refl
shown_alike among s t event.Stat calm h = ap (λ (n : ℕ). n ∷ []) (same_status s t h.parts.regs h.parts.store h.rest)
shown_alike among s t event.Read calm h = absurd calm
shown_alike among s t event.Skip calm h = absurd calm
shown_alike among s t (event.Ram address word) calm h = absurd calm
shown_alike among s t (event.Dma channel madr bcr chcr) calm h = absurd calm
shown_alike among s t (event.Begin madr bcr chcr) calm h = absurd calm
shown_alike among s t event.Turn calm h = absurd calm

pub run_alike : (among : ℕ → Type 0) (s t : State) (events : List Event) → AreCalm s events → Alike among s t
    → Alike among (run s events) (run t events)
run_alike among s t [] calm h = h
run_alike among s t (e ∷ events) calm h = run_alike among (after s e) (after t e) events calm.1
    (event_alike among s t e calm.0 h)

pub told_alike : (among : ℕ → Type 0) (s t : State) (events : List Event) → AreCalm s events → Alike among s t
    → told t events ≡ told s events
told_alike among s t [] calm h = refl
told_alike among s t (e ∷ events) calm h =
    ap (λ (ns : List ℕ). ns ++ told (after t e) events) (shown_alike among s t e calm.0 h)
    ∙ ap (λ (ns : List ℕ). shown_at s e ++ ns)
    (told_alike among (after s e) (after t e) events calm.1 (event_alike among s t e calm.0 h))

-- ---- the difference is never seen

event_same : (s t : State) (e : Event) → Same s t → Same (after s e) (after t e)
unfolding after after_gp0 after_gp1 after_read
event_same s t (event.Gp0 word) h = record {
  parts = ap (λ (item : Option Item). after_item t.parts item) (same_item s.words t.words word h.rest)
      ∙ ap (λ (p : Parts). after_item p (new_item s.words word)) h.parts;
  rest = same_rest s.words t.words word h.rest;
}
event_same s t (event.Gp1 word) h = by_test (is_clearing word)
  where
    by_test : (b : Bool) → Same
        (cond b (record { parts = cleared (record s.parts { regs = gp1_of s.parts.regs word }); words = [] })
        (record { parts = record s.parts { regs = gp1_of s.parts.regs word }; words = s.words }))
        (cond b (record { parts = cleared (record t.parts { regs = gp1_of t.parts.regs word }); words = [] })
        (record { parts = record t.parts { regs = gp1_of t.parts.regs word }; words = t.words }))
    by_test true = record {
      parts = ap
          (λ (p : Parts). cleared (record p { regs = gp1_of p.regs word })) h.parts;
      rest = refl;
    }
    by_test false = record {
      parts = ap
          (λ (p : Parts). record p { regs = gp1_of p.regs word }) h.parts;
      rest = h.rest;
    }
event_same s t event.Stat h = h
event_same s t event.Read h = record {
  parts = ap
      (λ (p : Parts). (taken_from p p.store).parts) h.parts;
  rest = h.rest;
}
event_same s t event.Skip h = record {
  parts = ap
      (λ (p : Parts). (taken_from p p.store).parts) h.parts;
  rest = h.rest;
}
event_same s t (event.Ram address word) h = h
event_same s t (event.Dma channel madr bcr chcr) h = h
event_same s t (event.Begin madr bcr chcr) h = h
event_same s t event.Turn h = h

pub status_same : (s t : State) → Same s t → status_word t ≡ status_word s
status_same s t h = same_status s t (ap (λ (p : Parts). p.regs) h.parts) (ap (λ (p : Parts). p.store) h.parts) h.rest

shown_same : (s t : State) (e : Event) → Same s t → shown_at t e ≡ shown_at s e
unfolding shown_at read_word
shown_same s t (event.Gp0 word) h = refl
shown_same s t (event.Gp1 word) h = refl
shown_same s t event.Stat h = ap (λ (n : ℕ). n ∷ []) (status_same s t h)
shown_same s t event.Read h = ap (λ (p : Parts). (taken_from p p.store).word ∷ []) h.parts
shown_same s t event.Skip h = refl
shown_same s t (event.Ram address word) h = refl
shown_same s t (event.Dma channel madr bcr chcr) h = refl
shown_same s t (event.Begin madr bcr chcr) h = refl
shown_same s t event.Turn h = refl

pub run_same : (s t : State) (events : List Event) → Same s t → Same (run s events) (run t events)
run_same s t [] h = h
run_same s t (e ∷ events) h = run_same (after s e) (after t e) events (event_same s t e h)

pub told_same : (s t : State) (events : List Event) → Same s t → told t events ≡ told s events
told_same s t [] h = refl
told_same s t (e ∷ events) h =
    ap (λ (ns : List ℕ). ns ++ told (after t e) events) (shown_same s t e h)
    ∙ ap (λ (ns : List ℕ). shown_at s e ++ ns) (told_same (after s e) (after t e) events (event_same s t e h))

-- ---- the number of cells stays

item_long : (p : Parts) (item : Option Item) → length (after_item p item).m ≡ length p.m
item_long p None = refl
item_long p (Some item) = effect_long p (packet_of p.regs.height item)

taken_long : (p : Parts) (job : Option Transfer) → length (taken_from p job).parts.m ≡ length p.m
taken_long p None = refl
taken_long p (Some job) = refl

event_long : (s : State) (e : Event) → length (after s e).parts.m ≡ length s.parts.m
unfolding after after_gp0 after_gp1 after_read
event_long s (event.Gp0 word) = item_long s.parts (new_item s.words word)
event_long s (event.Gp1 word) = by_test (is_clearing word)
  where
    by_test : (b : Bool)
        → length (cond {A = State} b
        (record { parts = cleared (record s.parts { regs = gp1_of s.parts.regs word }); words = [] })
        (record { parts = record s.parts { regs = gp1_of s.parts.regs word }; words = s.words })).parts.m
        ≡ length s.parts.m
    by_test true = refl
    by_test false = refl
event_long s event.Stat = refl
event_long s event.Read = taken_long s.parts s.parts.store
event_long s event.Skip = taken_long s.parts s.parts.store
event_long s (event.Ram address word) = refl
event_long s (event.Dma channel madr bcr chcr) = refl
event_long s (event.Begin madr bcr chcr) = refl
event_long s event.Turn = refl

pub run_long : (s : State) (events : List Event) → length (run s events).parts.m ≡ length s.parts.m
run_long s [] = refl
run_long s (e ∷ events) = run_long (after s e) events ∙ event_long s e
