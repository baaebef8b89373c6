use Rattle.std.proofs.Common.{sym, arith}
use Rattle.span_lanes.specs.Hazard.Guard.{has_hazard}
use Rattle.span_lanes.proofs.GuardLemmas.{cells_same}
use Rattle.span_lanes.proofs.PlanLemmas.{apart_free}
use Rattle.span_lanes.proofs.rows.by_coords.has_hazard.Goals as goal

pub returns-then-not-row_setup-clause-free : goal.returns-then-not-row_setup-clause-free
returns-then-not-row_setup-clause-free c none hazard =
    let span = c.args.chunk.now.span.now in
    let chunk = c.args.chunk.now in
    let t = c.args.row_setup.now.texture in
    let cells = cells_same span.paint t span.x span.y chunk.first _ _ chunk.k chunk.k c.requires.at (omega arith) in
    let with_raw = rw (c.requires.row_setup.texture, cells) at hazard in
    absurd (cc (c.reads_itself.ensures.pairs.1 with_raw, none))

pub returns-then-not-row_setup-clause-value : goal.returns-then-not-row_setup-clause-value
unfolding has_hazard
returns-then-not-row_setup-clause-value c =
    let span = c.args.chunk.now.span.now in
    let chunk = c.args.chunk.now in
    let t = c.args.row_setup.now.texture in
    let cells = cells_same span.paint t span.x span.y chunk.first _ _ chunk.k chunk.k c.requires.at (omega arith) in
    rw (c.requires.row_setup.texture, cells) c.reads_itself.ensures.value

pub returns-else-not-row_setup-clause-free : goal.returns-else-not-row_setup-clause-free
returns-else-not-row_setup-clause-free c none hazard =
    let is = c.requires.chunk in
    (c.requires.row_setup.hazard_free (cc c.if-not-row_setup.false)).free c.args.chunk.now.first c.args.chunk.now.k
    is.cut is.few is.within hazard

pub returns-else-not-row_setup-clause-value : goal.returns-else-not-row_setup-clause-value
returns-else-not-row_setup-clause-value c =
    rw c.if-not-row_setup.false
    (sym (apart_free c.args.chunk.now c.args.row_setup.now.texture c.requires.chunk
    (c.requires.row_setup.hazard_free (cc c.if-not-row_setup.false)) c.requires.row_setup.texture))
