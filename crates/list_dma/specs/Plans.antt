-- What a start of DMA channel 2 transfers (psx-spx, "DMA Channels": MADR, BCR and CHCR).
use Rattle.std.specs.Prelude.{◌≡◌, ◌≤◌, ℕ, ◌*◌, ◌/◌, ◌%◌, ◌^◌, ◌==◌, ◌&&◌, nat_lt}
use Rattle.std.specs.Prelude.{Bool, not, Option, Some, None, Result, Ok, Err, if◌then◌else◌}
use Rattle.std.specs.Int.{bit_at}
use Rattle.ot_clear_dma.specs.Ram.{cut, memory_words}
use Rattle.list_dma.specs.Node.{is_end}
use Rattle.list_dma.specs.declared.plan.Plan.{Plan}
use Rattle.list_dma.specs.declared.plan.Plan.TheVariants as plan
use Rattle.list_dma.specs.declared.plan.DmaFault.{DmaFault}
use Rattle.list_dma.specs.declared.plan.DmaFault.TheVariants as fault
use Rattle.list_dma.specs.declared.run.Run.{Run}
use Rattle.list_dma.specs.declared.run.Run.TheVariants as run

-- ---- the fields of the registers

-- a count of 16 bits; 0 means 10000h
abbrev pub count_of : ℕ → ℕ
count_of field = if field == 0 then 2 ^ 16 else field

-- BCR bits 0 to 15, the words of one block, and bits 16 to 31, the blocks
abbrev pub block_of : (bcr : ℕ) → ℕ
block_of bcr = count_of (bcr % 2 ^ 16)

abbrev pub blocks_of : (bcr : ℕ) → ℕ
blocks_of bcr = count_of (bcr / 2 ^ 16 % 2 ^ 16)

-- CHCR: bit 24 starts; bits 9 and 10 are the mode; bit 1 is 1 for decreasing addresses; bit 0 is 1 for a transfer
-- from RAM
abbrev pub is_started : (chcr : ℕ) → Bool
is_started chcr = bit_at chcr 24 == 1

abbrev pub mode_of : (chcr : ℕ) → ℕ
mode_of chcr = chcr / 2 ^ 9 % 4

abbrev pub is_back : (chcr : ℕ) → Bool
is_back chcr = bit_at chcr 1 == 1

abbrev pub is_to_ram : (chcr : ℕ) → Bool
is_to_ram chcr = bit_at chcr 0 == 0

-- ---- plans

-- a plan of n words, if memory has that many (our own rule)
abbrev pub words_of : (n chcr : ℕ) → Result Plan DmaFault
words_of n chcr =
    if nat_lt memory_words n then Err (fault.TooLong n) else Ok (plan.Words n (is_back chcr) (is_to_ram chcr))

-- the plan of a start: nothing without bit 24; one block in mode 0; blocks in mode 1; a list in mode 2, only from
-- RAM; anything else is refused
abbrev pub plan_of : (bcr chcr : ℕ) → Result Plan DmaFault
plan_of bcr chcr =
    if not (is_started chcr) then Ok plan.Idle else
    if mode_of chcr == 0 then words_of (block_of bcr) chcr else
    if mode_of chcr == 1 then words_of (block_of bcr * blocks_of bcr) chcr else
    if (mode_of chcr == 2) && not (is_to_ram chcr) then Ok plan.List else Err fault.Bad

-- a plan of words has at least one and no more than memory
abbrev pub IsPlan : Plan → Type 0
IsPlan plan.Idle = Unit {0}
IsPlan (plan.Words n back to_ram) = (1 ≤ n) × (n ≤ memory_words)
IsPlan plan.List = Unit {0}

-- ---- runs: transfers in turns (our own rule)

-- the number of words of one turn: all in mode 0, else one block
abbrev pub turn_of : (bcr chcr n : ℕ) → ℕ
turn_of bcr chcr n = if mode_of chcr == 0 then n else block_of bcr

-- the run of the list at an address, which may have no node
abbrev pub list_run_of : (address : ℕ) → Run
list_run_of address = if is_end address then run.Idle else run.List (cut address)

-- the run of a plan, or none for `Idle`
abbrev pub run_of : (madr bcr chcr : ℕ) → Plan → Option Run
run_of madr bcr chcr plan.Idle = None
run_of madr bcr chcr (plan.Words n back to_ram) = Some (run.Words (cut madr) n (turn_of bcr chcr n) back to_ram)
run_of madr bcr chcr plan.List = Some (list_run_of madr)

-- the run that a start begins, if any, or the reason why it is refused
abbrev pub begun : (madr bcr chcr : ℕ) → Result Plan DmaFault → Result (Option Run) DmaFault
begun madr bcr chcr (Ok planned) = Ok (run_of madr bcr chcr planned)
begun madr bcr chcr (Err why) = Err why

-- the address of a word in memory: a multiple of 4 below 200000h
abbrev pub IsWordAddress : ℕ → Type 0
IsWordAddress address = address ≡ cut address

-- the properties of every run that a start begins
abbrev pub IsRun : Run → Type 0
IsRun run.Idle = Unit {0}
IsRun (run.Words at left block back to_ram) =
    IsWordAddress at × ((1 ≤ left) × (left ≤ memory_words)) × ((1 ≤ block) × (block ≤ 2 ^ 16))
IsRun (run.List node) = IsWordAddress node
