-- Loops over words: a function of what is left of them, a step on and at the end.
use Rattle.std.proofs.Common.{◌≡◌, ℕ, ◌+◌, ◌<◌, ◌≤◌, List, [], ◌∷◌, map, length, get_or, drop, ap, ◌∙◌}
use Rattle.std.proofs.lemmas.List.{at_drop_more, at_drop_all, get_or-map, length-map}
use Rattle.words.specs.declared.word.Word.{Word}
use Rattle.words.specs.Words.{read_word}

-- a function of the words left, one word on
pub words_more : {Y : Type 0} (F : List Word → Y) (xs : List ℕ) (i : ℕ) → i < length xs →
    F (drop i (map read_word xs)) ≡ F (read_word (get_or xs i 0) ∷ drop (i + 1) (map read_word xs))
words_more F xs i h =
    let l : i < length (map read_word xs) = simp length-map h in
    at_drop_more F (map read_word xs) i (read_word 0) l
    ∙ ap (λ w. F (w ∷ drop (i + 1) (map read_word xs))) (get_or-map read_word xs i 0 (read_word 0) h)

pub words_all : {Y : Type 0} (F : List Word → Y) (xs : List ℕ) (i : ℕ) → length xs ≤ i → F (drop i (map read_word xs)) ≡ F []
words_all F xs i h = at_drop_all F (map read_word xs) i (simp length-map h)
