use Rattle.std.proofs.Common.{map, length, ap, ◌∙◌, arith, rules, tests}
use Rattle.std.proofs.lemmas.Iterator.{YieldsList-from_range}
use Rattle.std.proofs.lemmas.Iterator.Consumers.{YieldsList-from_filter, count_from_yields_List}
use Rattle.words.specs.Words.{read_word}
use Rattle.scan.specs.Places.{begins_at}
use Rattle.scan.proofs.Placed.{places_of_words}
use Rattle.scan.proofs.count_places.Goals as goal

pub returns : goal.returns
returns c =
    let xs = c.args.words.now in
    count_from_yields_List c.filter.result c.count.result c.count.ensures.ran
    (YieldsList-from_filter _ (begins_at (map read_word xs)) (YieldsList-from_range 0 (length xs) (length xs) (cc) (omega arith)) c.filter.ensures.closure (λ x r q k. search (rules, tests))) ∙ ap length (places_of_words xs)
