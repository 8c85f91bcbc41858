use Rattle.std.proofs.Common.{map, length, ap, ◌∙◌, arith, rules, tests}
use Rattle.std.specs.List.{slice_get}
use Rattle.std.proofs.lemmas.Iterator.{YieldsList-from_range}
use Rattle.std.proofs.lemmas.Iterator.Consumers.{YieldsList-from_filter, nth_from_yields_List}
use Rattle.words.specs.Words.{read_word}
use Rattle.scan.specs.Places.{begins_at, places_words}
use Rattle.scan.proofs.Placed.{places_of_words, place_get, found}
use Rattle.scan.proofs.get_place.Goals as goal

pub returns : goal.returns
returns c =
    let xs = c.args.words.now in
    let chain = nth_from_yields_List c.nth.result _ _ c.nth.ensures.ran
    (YieldsList-from_filter _ (begins_at (map read_word xs)) (YieldsList-from_range 0 (length xs) (length xs) (cc) (omega arith)) c.filter.ensures.closure (λ x r q k. search (rules, tests))) in
    found c.nth.result ∙ chain ∙ ap (λ ps. slice_get ps c.args.place) (places_of_words xs) ∙ place_get (places_words (map read_word xs)) c.args.place
