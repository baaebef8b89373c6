-- Pixels of several words, plotted at once or one after another.
use Rattle.std.proofs.Common.{◌≡◌, ◌<◌, ◌≤◌, ◌+◌, ◌*◌, ◌/◌, ◌%◌, ℕ, zero, suc, List, [], ◌∷◌, Option, Some, cond}
use Rattle.std.proofs.Common.{length, get_or, arith, refl, ap, sym, ◌∙◌}
use Rattle.std.proofs.lemmas.Nat.{div-mul-add, mod-mul-add}
use Rattle.px_num.specs.declared.shape.Cell.{Cell}
use Rattle.px_num.proofs.FoldLemmas.{each_below-add, each_below-same}
use Rattle.vram_store.specs.Vram.{IsStored, Lanes, height_of, bit}
use Rattle.vram_store.specs.Plot.{is_testing, is_forcing, is_kept, forced, plot, draw_at, draw_lane, drawn_lanes}
use Rattle.vram_store.proofs.ChunkLaw.{chunk_law}
use Rattle.vram_store.proofs.Drawn.{plot_is, length-put_at}
use Rattle.vram_copy.specs.Loads.{loaded_run}
use Rattle.vram_copy.specs.Places.{IsPlace}
use Rattle.vram_copy.specs.Rect.{beside}
use Rattle.vram_copy.specs.Words.{pixel_cell, pixel_of, pixels_next, pixels_in, advanced, advanced_by}
use Rattle.vram_copy.specs.Words.{words_left, Load, loaded, loaded_word, loaded_words}
use Rattle.vram_copy.specs.declared.place.Place.{Place}
use Rattle.vram_copy.specs.declared.loads.Stretch.{Stretch}
use Rattle.vram_copy.specs.declared.transfer.Transfer.{Transfer}
use Rattle.vram_copy.proofs.CopyLemmas.{place, lane_of, plot_alike}
use Rattle.vram_copy.proofs.WordLemmas.{cell_is}

-- ---- a run

-- lane i is pixel number first + i of the words
abbrev pub given : List ℕ → ℕ → ℕ → List ℕ → Option ℕ
given words first i m = Some (pixel_of words (first + i))

run_is : (m : List ℕ) (mask : ℕ) (words : List ℕ) (s : Stretch) → loaded_run m mask words s
    ≡ drawn_lanes (given words s.first) mask (place s.to) s.n m
unfolding drawn_lanes
run_is m mask words s =
    each_below-same (λ i cells. plot cells mask (s.to.x + i) s.to.y (pixel_of words (s.first + i)))
    (draw_lane (given words s.first) mask (place s.to)) s.n m
    (λ i cells lt.
    let there : 1024 * s.to.y + (s.to.x + i) ≡ place s.to + i = omega arith in
    plot_is cells mask (s.to.x + i) s.to.y (pixel_of words (s.first + i))
    ∙ ap (λ p. draw_at mask p (Some (pixel_of words (s.first + i))) cells) there)

-- one store of pixels, each with the mask setting applied, with a bit for each cell that is not protected
pub run_at_once : (old new : List ℕ) (mask : ℕ) (words : List ℕ) (to : Cell) (first : ℕ) (of : Lanes)
    → ((j : ℕ) → j < of.n → get_or of.lanes j 0 ≡ forced mask (pixel_of words (first + j)))
    → ((j : ℕ) → j < of.n → bit of.bits j ≡ cond (is_kept mask (get_or old (place to + j) 0)) 0 1)
    → IsStored old (place to) of new → new ≡ loaded_run old mask words (record { to = to; first = first; n = of.n })
run_at_once old new mask words to first of colors open_cells stored =
    chunk_law (given words first) mask (place to) old new of (record { blind = λ j lt now apart. refl })
    (record {
      lane = λ j lt. lane_of (is_kept mask (get_or old (place to + j) 0)) (bit of.bits j) (get_or of.lanes j 0)
          (forced mask (pixel_of words (first + j))) _ (open_cells j lt) (colors j lt);
    })
    stored
    ∙ sym (run_is old mask words (record { to = to; first = first; n = of.n }))

pub load_alike : (m : List ℕ) (a b : ℕ) (words : List ℕ) (s : Stretch) → is_testing a ≡ is_testing b
    → is_forcing a ≡ is_forcing b → loaded_run m a words s ≡ loaded_run m b words s
load_alike m a b words s tests forces =
    each_below-same (λ i cells. plot cells a (s.to.x + i) s.to.y (pixel_of words (s.first + i)))
    (λ i cells. plot cells b (s.to.x + i) s.to.y (pixel_of words (s.first + i))) s.n m
    (λ i cells lt. plot_alike cells a b (s.to.x + i) s.to.y (pixel_of words (s.first + i)) tests forces)

-- n cells after a stretch
abbrev pub behind : Stretch → ℕ → Stretch
behind s n = record { to = beside s.to s.n; first = s.first + s.n; n = n }

pub run_more : (m now new : List ℕ) (mask : ℕ) (words : List ℕ) (s : Stretch) (n : ℕ)
    → now ≡ loaded_run m mask words s → new ≡ loaded_run now mask words (behind s n)
    → new ≡ loaded_run m mask words (record s { n = s.n + n })
run_more m now new mask words s n so_far ran =
    ran
    ∙ ap (λ cells. loaded_run cells mask words (behind s n)) so_far
    ∙ sym (each_below-add (λ i cells. plot cells mask (s.to.x + i) s.to.y (pixel_of words (s.first + i))) s.n n m
    ∙ each_below-same
    (λ i cells. plot cells mask (s.to.x + (s.n + i)) s.to.y (pixel_of words (s.first + (s.n + i))))
    (λ i cells. plot cells mask (s.to.x + s.n + i) s.to.y (pixel_of words (s.first + s.n + i))) n
    (loaded_run m mask words s)
    (λ i cells lt.
    let x : s.to.x + (s.n + i) ≡ s.to.x + s.n + i = omega arith in
    let number : s.first + (s.n + i) ≡ s.first + s.n + i = omega arith in
    ap (λ column. plot cells mask column s.to.y (pixel_of words (s.first + (s.n + i)))) x
    ∙ ap (λ p. plot cells mask (s.to.x + s.n + i) s.to.y (pixel_of words p)) number))

-- ---- runs of a rectangle

-- a pixel of words is plotted at its cell; pixel i of the words that a transfer receives
abbrev plotted : (height mask : ℕ) → Load → (number i : ℕ) → List ℕ → List ℕ
plotted height mask load number i cells = plot cells mask (pixel_cell height load.job number).x
    (pixel_cell height load.job number).y (pixel_of load.words i)

abbrev draws : (height mask : ℕ) → Load → ℕ → List ℕ → List ℕ
draws height mask load i cells = plotted height mask load (load.job.at + i) i cells

on_right : (x sum start column k : ℕ) → x ≡ sum % 1024 → sum ≡ start + column → x + k < 1024
    → x + k ≡ (start + (column + k)) % 1024
on_right x sum start column k at is room = omega arith

cell_on : (height : ℕ) (job : Transfer) (here : Place) (to : Cell) (i k : ℕ) → IsPlace job.w here i
    → to ≡ pixel_cell height job i
    → here.column + k < job.w → to.x + k < 1024 → pixel_cell height job (i + k) ≡ record { x = to.x + k; y = to.y }
cell_on height job here to i k is at in_row room =
    let column : i % job.w ≡ here.column = rw is.number (mod-mul-add here.row job.w here.column is.column) in
    let row : i / job.w ≡ here.row = rw is.number (div-mul-add here.row job.w here.column is.column) in
    let x : to.x ≡ (job.x + i % job.w) % 1024 = ap (λ (cell : Cell). cell.x) at in
    let y : to.y ≡ (job.y + i / job.w) % height = ap (λ (cell : Cell). cell.y) at in
    sym (cell_is height job (record { column = here.column + k; row = here.row }) (i + k) (to.x + k) to.y
    (record { number = omega (arith, is.number); column = in_row })
    (on_right to.x (job.x + i % job.w) job.x here.column k x (ap (λ n. job.x + n) column) room)
    (y ∙ ap (λ n. (job.y + n) % height) row))

pub loaded_more : (height : ℕ) (m now new : List ℕ) (mask : ℕ) (load : Load) (here : Place) (to : Cell) (done n : ℕ)
    → IsPlace load.job.w here (load.job.at + done) → to ≡ pixel_cell height load.job (load.job.at + done)
    → here.column + n ≤ load.job.w → to.x + n ≤ 1024
    → now ≡ loaded height m mask load done
    → new ≡ loaded_run now mask load.words (record { to = to; first = done; n = n })
    → new ≡ loaded height m mask load (done + n)
loaded_more height m now new mask load here to done n is at in_row room so_far ran =
    ran
    ∙ ap (λ cells. loaded_run cells mask load.words (record { to = to; first = done; n = n })) so_far
    ∙ sym (each_below-add (draws height mask load) done n m
    ∙ each_below-same (λ i. draws height mask load (done + i))
    (λ i cells. plot cells mask (to.x + i) to.y (pixel_of load.words (done + i))) n (loaded height m mask load done)
    (λ i cells lt.
    let number : load.job.at + (done + i) ≡ load.job.at + done + i = omega arith in
    ap (λ p. plotted height mask load p (done + i) cells) number
    ∙ ap (λ (cell : Cell). plot cells mask cell.x cell.y (pixel_of load.words (done + i)))
    (cell_on height load.job here to (load.job.at + done) i is at (omega (arith, in_row, lt))
    (omega (arith, room, lt)))))

-- ---- plotting word by word equals plotting pixel by pixel

length-plot : (m : List ℕ) (mask x y color : ℕ) → length (plot m mask x y color) ≡ length m
length-plot m mask x y color = ap (λ cells. length cells) (plot_is m mask x y color) ∙ length-put_at _ _ m

length-load : (height : ℕ) (m : List ℕ) (mask : ℕ) (load : Load) (n : ℕ)
    → length (loaded height m mask load n) ≡ length m
length-load height m mask load zero = refl
length-load height m mask load (suc n) = length-plot (loaded height m mask load n) mask _ _ _
    ∙ length-load height m mask load n

pub pixels_more : (job : Transfer) (n : ℕ) → pixels_in job (suc n) ≡ pixels_next job + pixels_in (advanced job) n
pixels_more job n = omega arith

pub one_more_word : (job : Transfer) (n : ℕ) → advanced_by (advanced job) n ≡ advanced_by job (suc n)
one_more_word job n =
    let number : job.at + pixels_next job + pixels_in (advanced job) n ≡ job.at + pixels_in job (suc n) = omega arith in
    ap (λ at. record { x = job.x; y = job.y; w = job.w; h = job.h; at = at }) number

first_pixel : (word : ℕ) (words : List ℕ) (i : ℕ) → i < 2 → pixel_of (word ∷ []) i ≡ pixel_of (word ∷ words) i
first_pixel word words zero lt = refl
first_pixel word words (suc zero) lt = refl
first_pixel word words (suc (suc i)) lt = absurd (omega (arith, lt))

later_pixel : (word : ℕ) (words : List ℕ) (i : ℕ) → pixel_of words i ≡ pixel_of (word ∷ words) (2 + i)
later_pixel word words i =
    let half : (2 + i) % 2 ≡ i % 2 = omega arith in
    let number : (2 + i) / 2 ≡ suc (i / 2) = omega arith in
    rw (half, number) refl

later_draw : (height mask : ℕ) (job : Transfer) (word : ℕ) (words : List ℕ) (i : ℕ) (cells : List ℕ)
    → pixels_next job ≡ 2
    → draws height mask (record { job = job; words = word ∷ words }) (pixels_next job + i) cells
    ≡ draws height mask (record { job = advanced job; words = words }) i cells
later_draw height mask job word words i cells two =
    let number : job.at + (2 + i) ≡ job.at + 2 + i = omega arith in
    rw two
    (ap (λ p. plotted height mask (record { job = job; words = word ∷ words }) p (2 + i) cells) number
    ∙ ap (plot cells mask (pixel_cell height job (job.at + 2 + i)).x (pixel_cell height job (job.at + 2 + i)).y)
    (sym (later_pixel word words i)))

pub words_are_pixels : (height : ℕ) (m : List ℕ) (mask : ℕ) (job : Transfer) (words : List ℕ) → height ≡ height_of m
    → length words ≤ words_left job
    → loaded height m mask (record { job = job; words = words }) (pixels_in job (length words))
    ≡ loaded_words m mask job words
unfolding loaded_word
words_are_pixels height m mask job [] rows wanted = let none : pixels_in job 0 ≡ 0 = omega arith in rw none refl
words_are_pixels height m mask job (word ∷ words) rows wanted =
    let all : Load = record { job = job; words = word ∷ words } in
    let one : Load = record { job = job; words = word ∷ [] } in
    let rest : Load = record { job = advanced job; words = words } in
    let more : ℕ = pixels_in (advanced job) (length words) in
    let now : List ℕ = loaded_word m mask job word in
    let long : length now ≡ length m = length-load (height_of m) m mask one (pixels_next job) in
    let same : height ≡ height_of now = rows ∙ ap (λ n. n / 1024) (sym long) in
    ap (loaded height m mask all) (pixels_more job (length words))
    ∙ each_below-add (draws height mask all) (pixels_next job) more m
    ∙ each_below-same (λ i. draws height mask all (pixels_next job + i)) (draws height mask rest) more
    (loaded height m mask all (pixels_next job))
    (λ i cells lt. later_draw height mask job word words i cells (let most = lt in omega arith))
    ∙ ap (λ cells. loaded height cells mask rest more)
    (each_below-same (draws height mask all) (draws height mask one) (pixels_next job) m
    (λ i cells lt. ap (plot cells mask (pixel_cell height job (job.at + i)).x (pixel_cell height job (job.at + i)).y)
    (sym (first_pixel word words i (omega (arith, lt)))))
    ∙ ap (λ rows. loaded rows m mask one (pixels_next job)) rows)
    ∙ words_are_pixels height now mask (advanced job) words same (omega (arith, wanted))

-- all pixels of the words, at the height of video memory
pub words_done : (height : ℕ) (m new : List ℕ) (mask : ℕ) (load : Load) (done : ℕ)
    → height ≡ height_of m → length load.words ≤ words_left load.job
    → done ≡ pixels_in load.job (length load.words) → new ≡ loaded height m mask load done
    → new ≡ loaded_words m mask load.job load.words
words_done height m new mask load done rows wanted all so_far =
    so_far ∙ ap (loaded height m mask load) all ∙ words_are_pixels height m mask load.job load.words rows wanted

pub place_on : (width : ℕ) (here : Place) (at done n : ℕ) → IsPlace width here (at + done + n)
    → IsPlace width here (at + (done + n))
place_on width here at done n is = record { number = omega (arith, is.number); column = is.column }

pub place_first : (width : ℕ) (here : Place) (at : ℕ) → IsPlace width here at → IsPlace width here (at + 0)
place_first width here at is = record { number = omega (arith, is.number); column = is.column }
