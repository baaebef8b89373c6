-- Transfers that run in turns.
use Rattle.std.proofs.Common.{◌≡◌, ◌≢◌, ◌≤◌, ◌<◌, ℕ, zero, suc, ◌+◌, ◌-◌, ◌*◌, ◌/◌, ◌%◌, ◌^◌, ◌++◌, min, List, [], ◌∷◌}
use Rattle.std.proofs.Common.{None, Bool, true, false, true≢false, Result, Ok, Err, flat_map, get_or-set_other, ◌==◌}
use Rattle.std.proofs.Common.{◌&&◌, not, length, nat_lt, refl, ap, sym, subst, ◌∙◌, append_assoc, append-nil, arith}
use Rattle.std.proofs.Common.{inl, inr}
use Rattle.std.proofs.lemmas.Bool.{cases_Bool, eqb-true}
use Rattle.gpu_capture.specs.declared.event.Event.{Event}
use Rattle.gpu_capture.specs.declared.event.Event.TheVariants as event
use Rattle.gpu_core.specs.Machine.{State}
use Rattle.list_dma.proofs.Bound.{walk_ends, chain_stays}
use Rattle.list_dma.specs.Plans.{plan_of, words_of, begun, turn_of, is_started, mode_of, block_of, blocks_of, is_to_ram}
use Rattle.list_dma.specs.declared.plan.DmaFault.{DmaFault}
use Rattle.list_dma.specs.declared.plan.Plan.{Plan}
use Rattle.list_dma.specs.declared.plan.Plan.TheVariants as plan
use Rattle.list_dma.specs.Node.{is_end, next_of, node_of, words_behind, node_words, word_count}
use Rattle.list_dma.specs.Walk.{chain, walk_of, loop_of, list_words}
use Rattle.list_dma.specs.declared.run.Run.{Run}
use Rattle.list_dma.specs.declared.run.Run.TheVariants as run
use Rattle.ot_clear_dma.specs.Ram.{cut, set, word_at, place_of}
use Rattle.event_play.specs.Block.{address_in, first_words, block_words}
use Rattle.event_play.specs.Fed.{fed}
use Rattle.event_play.specs.Step.{Machine, event_step, done, stepped}
use Rattle.event_play.specs.Turns.{then_after, after_events, writes_of, remaining, IsApart, AreApart, turned}
use Rattle.event_play.specs.Turns.{MovesFromRam, first_addresses, node_addresses, addresses_after}
use Rattle.event_play.specs.Operation.{start_operation, begin_operation, turn_operation, words_left, list_left}
use Rattle.event_play.specs.declared.block.Block.{Block}
use Rattle.event_play.specs.declared.fault.EventFault.{EventFault}
use Rattle.event_play.specs.declared.operation.Operation.{Operation}
use Rattle.event_play.specs.declared.operation.Operation.TheVariants as operation
use Rattle.event_play.proofs.Feeds.{fed-append}
use Rattle.event_play.proofs.Nodes.{chain_ends, chain_goes}

-- ---- blocks

-- the address of word k + i, from the address of word k
address_on : (at n m : ℕ) (back : Bool) (k i : ℕ) → k + i ≤ 524288
    → address_in (record { at = address_in (record { at = at; n = n; back = back }) k; n = m; back = back }) i ≡
    address_in (record { at = at; n = n; back = back }) (k + i)
unfolding address_in
address_on at n m true k i most = omega (arith, most)
address_on at n m false k i most = omega (arith, most)

address_same : (at n m : ℕ) (back : Bool) (i : ℕ) → address_in (record { at = at; n = n; back = back }) i ≡ address_in
    (record { at = at; n = m; back = back }) i
unfolding address_in
address_same at n m back i = refl

-- The first words of a block do not depend on its number of words.
words_same : (ram : List ℕ) (at n m : ℕ) (back : Bool) (i : ℕ)
    → first_words ram (record { at = at; n = n; back = back }) i ≡ first_words ram
    (record { at = at; n = m; back = back }) i
words_same ram at n m back zero = refl
words_same ram at n m back (suc i) =
    ap (λ words. words ++ word_at ram (address_in (record { at = at; n = n; back = back }) i) ∷ [])
    (words_same ram at n m back i)
    ∙ ap (λ address. first_words ram (record { at = at; n = m; back = back }) i ++ word_at ram address ∷ [])
    (address_same at n m back i)

-- the first k words of a block, and the i words after them
words_on : (ram : List ℕ) (at n m : ℕ) (back : Bool) (k i : ℕ) → k + i ≤ 524288
    → first_words ram (record { at = at; n = n; back = back }) (k + i)
    ≡ first_words ram (record { at = at; n = n; back = back }) k
    ++ first_words ram (record { at = address_in (record { at = at; n = n; back = back }) k; n = m; back = back }) i
words_on ram at n m back k zero most = let e : k + 0 ≡ k = omega arith in rw (e, append-nil) refl
words_on ram at n m back k (suc i) most =
    let block : Block = record { at = at; n = n; back = back } in
    let later : Block = record { at = address_in block k; n = m; back = back } in
    let e : k + suc i ≡ suc (k + i) = omega arith in
    let less : k + i ≤ 524288 = omega arith in
    let address = address_on at n m back k i less in
    rw (e, ← address) (ap (λ words. words ++ word_at ram (address_in later i) ∷ []) (words_on ram at n m back k i less)
    ∙ append_assoc (first_words ram block k) (first_words ram later i) (word_at ram (address_in later i) ∷ []))

-- `cut` of the start address does not change the addresses of a block.
start_cut : (at n : ℕ) (back : Bool) (i : ℕ) → i ≤ 524288
    → address_in (record { at = cut at; n = n; back = back }) i ≡ address_in (record { at = at; n = n; back = back }) i
unfolding address_in
start_cut at n true i most = omega (arith, most)
start_cut at n false i most = omega (arith, most)

words_cut : (ram : List ℕ) (at n : ℕ) (back : Bool) (i : ℕ) → i ≤ 524288
    → first_words ram (record { at = cut at; n = n; back = back }) i ≡ first_words ram
    (record { at = at; n = n; back = back }) i
words_cut ram at n back zero most = refl
words_cut ram at n back (suc i) most =
    ap (λ words. words ++ word_at ram (address_in (record { at = cut at; n = n; back = back }) i) ∷ [])
    (words_cut ram at n back i (omega arith))
    ∙ ap (λ address. first_words ram (record { at = at; n = n; back = back }) i ++ word_at ram address ∷ [])
    (start_cut at n back i (omega arith))

-- ---- walks

-- An address after `cut` ends no list.
whole_goes : (address : ℕ) → is_end (cut address) ≡ false
whole_goes address = let e : cut address / 2 ^ 23 % 2 ≡ 0 = omega arith in rw e refl

chain_cut : (ram : List ℕ) (address n : ℕ) → is_end address ≡ false → chain ram (cut address) n ≡ chain ram address n
unfolding chain
chain_cut ram address zero on = refl
chain_cut ram address (suc n) on =
    let whole : is_end (cut address) ≡ false = whole_goes address in
    let same : cut (cut address) ≡ cut address = omega arith in
    rw (on, whole, same) refl

-- a walk that ends: its first node, and the walk from the next one on
node_on : (ram : List ℕ) (node n : ℕ) → cut node ≡ node → length (chain ram node n) < n
    → (flat_map (node_words ram) (chain ram node n) ≡ node_words ram node ++ flat_map (node_words ram)
    (chain ram (next_of ram node) n))
    × (length (chain ram (next_of ram node) n) < n)
node_on ram node zero whole short = absurd (omega (arith, short))
node_on ram node (suc m) whole short =
    let on : is_end node ≡ false = subst (λ (a : ℕ). is_end a ≡ false) whole (whole_goes node) in
    let goes : chain ram node (suc m) ≡ node ∷ chain ram (next_of ram node) m =
    rw whole at (chain_goes ram node (suc m) m (omega arith) on) in
    let less : length (chain ram (next_of ram node) m) < m = let l = ap length goes in omega (arith, l, short) in
    let stays = chain_stays ram (next_of ram node) m (suc m) less (omega arith) in
    rw (goes, stays) (refl, omega (arith, less))

-- ---- the rest of a transfer; n: a number of nodes that no walk of a list that ends has

-- the words left of a transfer
abbrev left_words : (n : ℕ) → List ℕ → Run → List ℕ
left_words n ram run.Idle = []
left_words n ram (run.Words at left block back to_ram) =
    first_words ram (record { at = at; n = left; back = back }) left
left_words n ram (run.List node) = flat_map (node_words ram) (chain ram node n)

-- the transfer is from main memory, and ends
abbrev Ends : (n : ℕ) → List ℕ → Run → Type 0
Ends n ram run.Idle = Unit {0}
Ends n ram (run.Words at left block back to_ram) = (to_ram ≡ false) × (left ≤ 524288)
Ends n ram (run.List node) = (cut node ≡ node) × (length (chain ram node n) < n)

-- ---- a turn

record TurnDone (n : ℕ) (gpu : State) (ram : List ℕ) (running : Run) : Type 0 where
  words : List ℕ
  next : Run
  is : turned (record { gpu = gpu; ram = ram; running = running }) ≡ record
      { gpu = fed gpu words; ram = ram; running = next }
  left : left_words n ram running ≡ words ++ left_words n ram next
  ends : Ends n ram next

-- the rest of a transfer of words
words_turn : (n : ℕ) (ram : List ℕ) (at left block : ℕ) (back : Bool) (k : ℕ) → k ≤ left → left ≤ 524288
    → first_words ram (record { at = at; n = left; back = back }) left
    ≡ first_words ram (record { at = at; n = k; back = back }) k
    ++ left_words n ram (words_left (address_in (record { at = at; n = k; back = back }) k) (left - k) block back false)
words_turn n ram at left block back k within most =
    let turn : Block = record { at = at; n = k; back = back } in
    let same : first_words ram (record { at = at; n = left; back = back }) left ≡ first_words ram turn left =
    words_same ram at left k back left in
    elim (cases_Bool (left - k == 0)) [
      | inl none ↦
          let none_left : left - k ≡ 0 = eqb-true (left - k) 0 none in
          let all : left ≡ k = omega arith in
          rw (none, append-nil) (same ∙ ap (first_words ram turn) all)
      | inr some ↦
          let all : left ≡ k + (left - k) = omega arith in
          rw some (same ∙ ap (first_words ram turn) all ∙ words_on ram at k (left - k) back k (left - k) (omega arith))
    ]

words_end : (n : ℕ) (ram : List ℕ) (at left block : ℕ) (back : Bool) → left ≤ 524288
    → Ends n ram (words_left at left block back false)
words_end n ram at left block back most = elim (cases_Bool (left == 0))
    [ inl none ↦ rw none tt | inr some ↦ rw some (refl, most) ]

-- the rest of a list
list_turn : (n : ℕ) (ram : List ℕ) (address : ℕ) → flat_map (node_words ram) (chain ram address n) ≡ left_words n ram
    (list_left (node_of address))
list_turn n ram address = elim (cases_Bool (is_end address)) [
  | inl end ↦ rw (end, chain_ends ram address n end) refl
  | inr on ↦ rw (on, chain_cut ram address n on) refl
]

list_end : (n : ℕ) (ram : List ℕ) (address : ℕ) → length (chain ram address n) < n
    → Ends n ram (list_left (node_of address))
list_end n ram address short = elim (cases_Bool (is_end address)) [
  | inl end ↦ rw end tt
  | inr on ↦ let same : cut (cut address) ≡ cut address =
      omega arith in rw on (same, rw (chain_cut ram address n on) short)
]

turn_done : (n : ℕ) (gpu : State) (ram : List ℕ) (running : Run) → Ends n ram running → TurnDone n gpu ram running
turn_done n gpu ram run.Idle ends = record { words = []; next = run.Idle; is = refl; left = refl; ends = tt }
turn_done n gpu ram (run.Words at left block back true) ends = absurd (true≢false ends.0)
turn_done n gpu ram (run.Words at left block back false) ends =
    let k = min block left in
    let within : k ≤ left = omega arith in
    let turn : Block = record { at = at; n = k; back = back } in
    record {
      words = block_words ram turn;
      next = words_left (address_in turn k) (left - k) block back false;
      is = refl;
      left = words_turn n ram at left block back k within ends.1;
      ends = words_end n ram (address_in turn k) (left - k) block back (let most = ends.1 in omega arith);
    }
turn_done n gpu ram (run.List node) ends =
    let on = node_on ram node n ends.0 ends.1 in
    record {
      words = node_words ram node;
      next = list_left (node_of (next_of ram node));
      is = refl;
      left = on.0 ∙ ap (λ words. node_words ram node ++ words) (list_turn n ram (next_of ram node));
      ends = list_end n ram (next_of ram node) on.1;
    }

-- ---- a write

-- the addresses that remain to be read
abbrev rest_of : (n : ℕ) → List ℕ → Run → List ℕ
rest_of n ram run.Idle = []
rest_of n ram (run.Words at left block back to_ram) = first_addresses (record { at = at; n = left; back = back }) left
rest_of n ram (run.List node) = flat_map (node_addresses ram) (chain ram node n)

rest_is : (n : ℕ) → ((ram : List ℕ) (node : ℕ) → walk_of ram node ≡ chain ram node n) → (ram : List ℕ) (running : Run)
    → remaining ram running ≡ rest_of n ram running
rest_is n walk ram run.Idle = refl
rest_is n walk ram (run.Words at left block back to_ram) = refl
rest_is n walk ram (run.List node) = ap (flat_map (node_addresses ram)) (walk ram node)

apart-append : (address : ℕ) (xs ys : List ℕ) → IsApart address (xs ++ ys) → IsApart address xs × IsApart address ys
apart-append address [] ys apart = (tt, apart)
apart-append address (x ∷ xs) ys apart = let rest = apart-append address xs ys apart.1 in ((apart.0, rest.0), rest.1)

module _ (ram : List ℕ) (address word : ℕ) where
  -- A word at another address stays.
  word_stays : (other : ℕ) → cut other ≢ cut address → word_at (set ram address word) other ≡ word_at ram other
  word_stays other apart =
      let ne : place_of other ≢ place_of address = λ e. apart (ap (λ index. index * 4) e) in
      rw get_or-set_other refl

  after_stay : (at n : ℕ) → IsApart address (addresses_after at n)
      → words_behind (set ram address word) at n ≡ words_behind ram at n
  after_stay at zero apart = refl
  after_stay at (suc n) apart = rw (word_stays (at + 4) apart.0)
      (ap (λ words. word_at ram (at + 4) ∷ words) (after_stay (at + 4) n apart.1))

  node_stays : (node : ℕ) → IsApart address (node_addresses ram node)
      → node_words (set ram address word) node ≡ node_words ram node
  node_stays node apart = rw (word_stays node apart.0) (after_stay node (word_count ram node) apart.1)

  nodes_stay : (nodes : List ℕ) → IsApart address (flat_map (node_addresses ram) nodes)
      → flat_map (node_words (set ram address word)) nodes ≡ flat_map (node_words ram) nodes
  nodes_stay [] apart = refl
  nodes_stay (node ∷ nodes) apart =
      let parts = apart-append address (node_addresses ram node) (flat_map (node_addresses ram) nodes) apart in
      ap (λ words. words ++ flat_map (node_words (set ram address word)) nodes) (node_stays node parts.0)
      ∙ ap (λ words. node_words ram node ++ words) (nodes_stay nodes parts.1)

  chain_stays_so : (start n : ℕ) → IsApart address (flat_map (node_addresses ram) (chain ram start n))
      → chain (set ram address word) start n ≡ chain ram start n
  unfolding chain
  chain_stays_so start zero apart = refl
  chain_stays_so start (suc n) apart = elim (cases_Bool (is_end start)) [
    | inl end ↦ rw end refl
    | inr on ↦
        let goes = rw on at apart in
        let parts = apart-append address (node_addresses ram (cut start))
        (flat_map (node_addresses ram) (chain ram (next_of ram (cut start)) n)) goes in
        let header = word_stays (cut start) parts.0.0 in
        rw (on, header) (ap (λ nodes. cut start ∷ nodes) (chain_stays_so (next_of ram (cut start)) n parts.1))
  ]

  block_stays : (block : Block) (i : ℕ) → IsApart address (first_addresses block i)
      → first_words (set ram address word) block i ≡ first_words ram block i
  block_stays block zero apart = refl
  block_stays block (suc i) apart =
      let parts = apart-append address (first_addresses block i) (address_in block i ∷ []) apart in
      rw (word_stays (address_in block i) parts.1.0)
      (ap (λ words. words ++ word_at ram (address_in block i) ∷ []) (block_stays block i parts.0))

  left_stays : (n : ℕ) (running : Run) → IsApart address (rest_of n ram running) → Ends n ram running
      → (left_words n (set ram address word) running ≡ left_words n ram running) × Ends n (set ram address word) running
  left_stays n run.Idle apart ends = (refl, tt)
  left_stays n (run.Words at left block back to_ram) apart ends =
      (block_stays (record { at = at; n = left; back = back }) left apart, ends)
  left_stays n (run.List node) apart ends =
      let same = chain_stays_so node n apart in
      (rw same (nodes_stay (chain ram node n) apart), (ends.0, rw same ends.1))

-- A transfer of words has no more words than main memory.
abbrev MostWords : Result Plan DmaFault → Type 0
MostWords (Ok (plan.Words n back to_ram)) = n ≤ 524288
MostWords other = Unit {0}

-- ---- many events

-- main memory after the writes among events
abbrev written : List ℕ → List Event → List ℕ
written ram [] = ram
written ram (event.Ram address word ∷ events) = written (set ram address word) events
written ram (other ∷ events) = written ram events

-- only writes
after_writes : (events : List Event) (number : ℕ) (gpu : State) (ram : List ℕ) (running : Run)
    → after_events (record { gpu = gpu; ram = ram; running = running }) number (writes_of events)
    ≡ Ok (record { gpu = gpu; ram = written ram events; running = running })
unfolding event_step
after_writes [] number gpu ram running = refl
after_writes (event.Ram address word ∷ events) number gpu ram running =
    after_writes events (number + 1) gpu (set ram address word) running
after_writes (other ∷ events) number gpu ram running = after_writes events number gpu ram running

-- The machine after an event does not depend on the event's number.
machine_same : (s : Machine) (number other : ℕ) (asked : Operation)
    → (done s number asked).machine ≡ (done s other asked).machine
machine_same s number other operation.Nothing = refl
machine_same s number other (operation.Put address word) = refl
machine_same s number other (operation.Feed words next) = refl
machine_same s number other (operation.Take block next) = refl
machine_same s number other (operation.Control word) = refl
machine_same s number other operation.Read = refl
machine_same s number other operation.Skip = refl
machine_same s number other operation.Stat = refl
machine_same s number other (operation.Clear madr n) = refl
machine_same s number other (operation.Begin next) = refl

step_turn : (s : Machine) (number : ℕ) (events : List Event)
    → after_events s number (event.Turn ∷ events) ≡ after_events (turned s) (number + 1) events
unfolding event_step
step_turn s number events = ap (λ after. after_events after (number + 1) events)
    (machine_same s number 0 (turn_operation s.ram s.running))

step_write : (gpu : State) (ram : List ℕ) (running : Run) (number address word : ℕ) (events : List Event)
    → after_events (record { gpu = gpu; ram = ram; running = running }) number (event.Ram address word ∷ events)
    ≡ after_events (record { gpu = gpu; ram = set ram address word; running = running }) (number + 1) events
unfolding event_step
step_write gpu ram running number address word events = refl

-- If no transfer runs, no word was left.
nothing_left : (n : ℕ) (gpu : State) (ram : List ℕ) (running : Run) (ended : Machine)
    → ◌≡◌ {A = Result Machine EventFault} (Ok (record { gpu = gpu; ram = ram; running = running })) (Ok ended)
    → ended.running ≡ run.Idle
    → ended ≡ record { gpu = fed gpu (left_words n ram running); ram = ram; running = run.Idle }
nothing_left n gpu ram running ended after idle =
    let is : record { gpu = gpu; ram = ram; running = running } ≡ ended = cc in
    let none : running ≡ run.Idle = ap (λ (m : Machine). m.running) is ∙ idle in
    let as_idle : ended ≡ record { gpu = gpu; ram = ram; running = run.Idle } = sym is
    ∙ ap (λ running. record { gpu = gpu; ram = ram; running = running }) none in
    as_idle ∙ ap (λ words. record { gpu = fed gpu words; ram = ram; running = run.Idle })
    (sym (ap (left_words n ram) none))

words_walked : (n : ℕ) (ram : List ℕ) (start : ℕ) → walk_of ram start ≡ chain ram start n
    → list_words ram start ≡ flat_map (node_words ram) (chain ram start n)
unfolding list_words
words_walked n ram start walk = ap (flat_map (node_words ram)) walk

-- Turns and writes until no transfer runs feed the words that were left.
module _ (n : ℕ) (walk : (ram : List ℕ) (node : ℕ) → walk_of ram node ≡ chain ram node n)
    (short : (ram : List ℕ) (start : ℕ) → loop_of ram start ≡ None → length (chain ram start n) < n) where
  events_whole : (events : List Event) (number : ℕ) (gpu : State) (ram : List ℕ) (running : Run) (ended : Machine)
      → Ends n ram running → AreApart (record { gpu = gpu; ram = ram; running = running }) events
      → after_events (record { gpu = gpu; ram = ram; running = running }) number events ≡ Ok ended
      → ended.running ≡ run.Idle
      → ended ≡ record { gpu = fed gpu (left_words n ram running); ram = written ram events; running = run.Idle }
  events_whole [] number gpu ram running ended ends apart after idle = nothing_left n gpu ram running ended after idle
  events_whole (event.Turn ∷ events) number gpu ram running ended ends apart after idle =
      let s : Machine = record { gpu = gpu; ram = ram; running = running } in
      let did = turn_done n gpu ram running ends in
      let P : Machine → Type 0 = λ m. AreApart m events in
      let Q : Machine → Type 0 = λ m. after_events m (number + 1) events ≡ Ok ended in
      let later = events_whole events (number + 1) (fed gpu did.words) ram did.next ended did.ends
      (subst P did.is apart)
      (subst Q did.is (sym (step_turn s number events) ∙ after)) idle in
      later ∙ ap (λ g. record { gpu = g; ram = written ram events; running = run.Idle })
      (sym (fed-append gpu did.words (left_words n ram did.next)) ∙ ap (fed gpu) (sym did.left))
  events_whole (event.Ram address word ∷ events) number gpu ram running ended ends apart after idle =
      let Q : List ℕ → Type 0 = λ others. IsApart address others in
      let elsewhere : IsApart address (rest_of n ram running) = subst Q (rest_is n walk ram running) apart.0 in
      let stays = left_stays ram address word n running elsewhere ends in
      let later = events_whole events (number + 1) gpu (set ram address word) running ended stays.1 apart.1
      (sym (step_write gpu ram running number address word events) ∙ after) idle in
      later ∙ ap (λ words. record
      { gpu = fed gpu words; ram = written (set ram address word) events; running = run.Idle }) stays.0
  events_whole (other ∷ events) number gpu ram running ended ends apart after idle = absurd apart

  -- ---- the start

  -- the transfer that a start begins, and what the start does at once
  record Started (s started : Machine) (madr : ℕ) (planned : Result Plan DmaFault) : Type 0 where
    gpu : started.gpu ≡ s.gpu
    ram : started.ram ≡ s.ram
    ends : Ends n s.ram started.running
    at_once : (number : ℕ) (on : Machine → Result Machine EventFault)
        → then_after (stepped s number (start_operation s.ram madr planned)) on
        ≡ on (record { gpu = fed s.gpu (left_words n s.ram started.running); ram = s.ram; running = run.Idle })

  starts : (s started : Machine) (number madr bcr chcr : ℕ) (planned : Result Plan DmaFault)
      → MovesFromRam s.ram madr planned → MostWords planned
      → then_after (stepped s number (begin_operation (begun madr bcr chcr planned))) (λ after. Ok after) ≡ Ok started
      → Started s started madr planned
  starts s started number madr bcr chcr (Ok plan.Idle) moves most is = absurd moves
  starts s started number madr bcr chcr (Ok (plan.Words m back true)) moves most is = absurd (true≢false moves)
  starts s started number madr bcr chcr (Ok (plan.Words m back false)) moves most is =
      let first : Run = run.Words (cut madr) m (turn_of bcr chcr m) back false in
      let same : record { gpu = s.gpu; ram = s.ram; running = first } ≡ started = cc in
      let runs : first ≡ started.running = ap (λ (m : Machine). m.running) same in
      let P : Run → Type 0 = λ r. Ends n s.ram r in
      record {
        gpu = sym (ap (λ (m : Machine). m.gpu) same);
        ram = sym (ap (λ (m : Machine). m.ram) same);
        ends = subst P runs (refl, most);
        at_once = λ number on. ap (λ words. on (record { gpu = fed s.gpu words; ram = s.ram; running = run.Idle }))
            (sym (words_cut s.ram madr m back m most) ∙ ap (left_words n s.ram) runs);
      }
  starts s started number madr bcr chcr (Ok plan.List) moves most is =
      let first : Run = run.List (cut madr) in
      let began = rw moves.1 at is in
      let same : record { gpu = s.gpu; ram = s.ram; running = first } ≡ started = cc began in
      let runs : first ≡ started.running = ap (λ (m : Machine). m.running) same in
      let P : Run → Type 0 = λ r. Ends n s.ram r in
      let whole : cut (cut madr) ≡ cut madr = omega arith in
      let chains = chain_cut s.ram madr n moves.1 in
      record {
        gpu = sym (ap (λ (m : Machine). m.gpu) same);
        ram = sym (ap (λ (m : Machine). m.ram) same);
        ends = subst P runs (whole, rw chains (short s.ram madr moves.0));
        at_once = λ number on. rw moves.0
            (ap (λ words. on (record { gpu = fed s.gpu words; ram = s.ram; running = run.Idle }))
            (words_walked n s.ram madr (walk s.ram madr) ∙ ap (flat_map (node_words s.ram)) (sym chains)
            ∙ ap (left_words n s.ram) runs));
      }
  starts s started number madr bcr chcr (Err why) moves most is = absurd moves

  turns_by : (s started ended : Machine) (number other madr bcr chcr : ℕ) (events : List Event)
      → MovesFromRam s.ram madr (plan_of bcr chcr) → MostWords (plan_of bcr chcr)
      → after_events s number (event.Begin madr bcr chcr ∷ []) ≡ Ok started
      → AreApart started events → after_events started (number + 1) events ≡ Ok ended → ended.running ≡ run.Idle
      → after_events s other (event.Dma 2 madr bcr chcr ∷ writes_of events) ≡ Ok ended
  unfolding event_step
  turns_by s started ended number other madr bcr chcr events moves most begins apart after idle =
      let start = starts s started number madr bcr chcr (plan_of bcr chcr) moves most begins in
      let from : Machine = record { gpu = s.gpu; ram = s.ram; running = started.running } in
      let same : started ≡ from = ap (λ g. record { gpu = g; ram = started.ram; running = started.running }) start.gpu
      ∙ ap (λ ram. record { gpu = s.gpu; ram = ram; running = started.running }) start.ram in
      let P : Machine → Type 0 = λ m. AreApart m events in
      let Q : Machine → Type 0 = λ m. after_events m (number + 1) events ≡ Ok ended in
      let ends = events_whole events (number + 1) s.gpu s.ram started.running ended start.ends (subst P same apart)
      (subst Q same after) idle in
      start.at_once other (λ m. after_events m (other + 1) (writes_of events))
      ∙ after_writes events (other + 1) (fed s.gpu (left_words n s.ram started.running)) s.ram run.Idle
      ∙ ap Ok (sym ends)

-- ---- the number of nodes that no walk of a list that ends has

limit : ℕ
limit = 524289

walk_limit : (ram : List ℕ) (start : ℕ) → walk_of ram start ≡ chain ram start limit
unfolding walk_of limit
walk_limit ram start = refl

short_limit : (ram : List ℕ) (start : ℕ) → loop_of ram start ≡ None → length (chain ram start limit) < limit
unfolding loop_of walk_of limit
short_limit ram start none = let most = walk_ends ram start 524289 524288 none (omega arith) in omega (arith, most)

words_most : (n chcr : ℕ) → MostWords (words_of n chcr)
words_most n chcr = elim (cases_Bool (nat_lt 524288 n))
    [ inl many ↦ rw many tt | inr few ↦ let most : n ≤ 524288 = grind arith in rw few most ]

plan_most : (bcr chcr : ℕ) → MostWords (plan_of bcr chcr)
plan_most bcr chcr = elim (cases_Bool (is_started chcr)) [
  | inr off ↦ rw off tt
  | inl on ↦ elim (cases_Bool (mode_of chcr == 0)) [
    | inl one ↦ rw (on, one) (words_most (block_of bcr) chcr)
    | inr not_one ↦ elim (cases_Bool (mode_of chcr == 1)) [
      | inl many ↦ rw (on, not_one, many) (words_most (block_of bcr * blocks_of bcr) chcr)
      | inr not_many ↦ elim (cases_Bool ((mode_of chcr == 2) && not (is_to_ram chcr))) [
        | inl listed ↦ rw (on, not_one, not_many, listed) tt
        | inr bad ↦ rw (on, not_one, not_many, bad) tt
      ]
    ]
  ]
]

pub turns_whole : (s started ended : Machine) (number other madr bcr chcr : ℕ) (events : List Event)
    → MovesFromRam s.ram madr (plan_of bcr chcr)
    → after_events s number (event.Begin madr bcr chcr ∷ []) ≡ Ok started
    → AreApart started events → after_events started (number + 1) events ≡ Ok ended → ended.running ≡ run.Idle
    → after_events s other (event.Dma 2 madr bcr chcr ∷ writes_of events) ≡ Ok ended
turns_whole s started ended number other madr bcr chcr events moves begins apart after idle =
    turns_by limit walk_limit short_limit s started ended number other madr bcr chcr events moves
    (plan_most bcr chcr) begins apart after idle
