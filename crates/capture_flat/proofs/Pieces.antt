-- The records of reads, part by part.
use Rattle.std.proofs.Common.{◌≡◌, ◌<◌, ◌+◌, ◌-◌, ◌++◌, ℕ, suc, [], ◌∷◌, replicate, ap, ◌∙◌, arith, sym}
use Rattle.std.proofs.lemmas.List.{replicate-append-replicate}
use Rattle.gpu_capture.specs.Written.{spell}
use Rattle.gpu_capture.specs.declared.event.Event.TheVariants.{Skip}
use Rattle.gpu_capture.proofs.Spelled.{spell-append, spell_split}

-- i reads, then one more
pub skips_more : (i : ℕ) → spell (replicate (i + 1) Skip) ≡ spell (replicate i Skip) ++ spell (Skip ∷ [])
skips_more i = ap spell (sym (replicate-append-replicate i 1 Skip)) ∙ spell-append (replicate i Skip) (Skip ∷ [])

-- i reads, one read, then the rest
pub skips_split : (i n : ℕ) → i < n
    → spell (replicate n Skip) ≡ spell (replicate i Skip) ++ (spell (Skip ∷ []) ++ spell (replicate (n - (i + 1)) Skip))
skips_split i n lt =
    let rest = n - (i + 1) in
    let e : n ≡ i + suc rest = omega arith in
    ap (λ m. spell (replicate m Skip)) e ∙ ap spell (sym (replicate-append-replicate i (suc rest) Skip))
    ∙ spell_split (replicate i Skip) Skip (replicate rest Skip)
