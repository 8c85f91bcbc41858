use Rattle.std.proofs.Common.{◌≡◌, ℕ, ◌<◌, List, [], ◌∷◌, map, length, refl, ap, ◌∙◌, arith}
use Rattle.words.specs.Words.{read_word}
use Rattle.scan.specs.Weight.{weight_words}
use Rattle.scan.proofs.Weights.{weight_of_body}
use Rattle.scan.proofs.weigh.Goals as goal

no_words : (xs : List ℕ) → length xs < 1 → weight_words (map read_word xs) ≡ 0
no_words [] h = refl
no_words (x ∷ xs) h = absurd (omega arith)

pub returns-clause-tree : goal.returns-clause-tree
returns-clause-tree c =
    let value : c.loop-rest.weight ≡ weight_words (map read_word c.args.words.now) =
    omega (arith, no_words c.loop-rest.rest.now c.in_default.len_below, c.loop-rest.invariant.1) in
    λ ss e. value ∙ ap weight_words e ∙ weight_of_body ss
