use Rattle.std.proofs.Common.{◌≡◌, length, take, arith}
use Rattle.std.proofs.lemmas.List.{length-take-le}
use Rattle.gpu_capture.proofs.Words.{whole_words, stops_short, stops_failed}
use Rattle.gpu_capture.proofs.block.fill_words.Goals as goal

pub returns-then-n-bytes-clause-stop : goal.returns-then-n-bytes-clause-stop
returns-then-n-bytes-clause-stop g c =
    let long = length-take-le c.in-Ok.n c.fill.new.buf (omega (arith, c.in-Ok.ensures.ok.fits)) in
    let lt = c.if-n-bytes.true in
    stops_short _ _ _ _ _ (take c.in-Ok.n c.fill.new.buf) c.in-Ok.ensures.ok.bytes c.read_words.ensures.takes
    (length c.args.bytes.now) c.requires.can.may c.requires.whole (omega (arith, long, lt)) c.read_words.ensures.offset
    c.in-Ok.n long (c.in-Ok.ensures.ended lt)

pub returns-else-n-bytes-clause-takes : goal.returns-else-n-bytes-clause-takes
returns-else-n-bytes-clause-takes g c =
    let long = length-take-le c.in-Ok.n c.fill.new.buf (omega (arith, c.in-Ok.ensures.ok.fits)) in
    let le = c.if-n-bytes.false in
    let fits = c.in-Ok.ensures.ok.fits in
    let whole = c.requires.whole in
    let n : c.in-Ok.n ≡ length c.args.bytes.now = omega (arith, fits, le) in
    whole_words _ _ _ _ _ (take c.in-Ok.n c.fill.new.buf) c.in-Ok.ensures.ok.bytes c.read_words.ensures.takes
    (rw (long, n) whole)

pub returns-in-Err-clause-stop : goal.returns-in-Err-clause-stop
returns-in-Err-clause-stop g c =
    let long = length-take-le c.in-Err.n c.fill.new.buf (omega (arith, c.in-Err.ensures.failed.fits)) in
    let lt = c.in-Err.ensures.part in
    stops_failed _ _ _ _ _ (take c.in-Err.n c.fill.new.buf) c.in-Err.ensures.failed.bytes
    c.read_words-in-Err.ensures.takes
    (length c.args.bytes.now) c.requires.can.may c.requires.whole
    (omega (arith, long, lt)) c.read_words-in-Err.ensures.offset
    c.in-Err.n long
