-- What a verdict of the checker means, in the words of the format: accepted scripts are the words of a tree that
-- keeps the rules, of one tree only, and a refusal rests on the words up to the refused one alone.
use Rattle.std.specs.Prelude.{◌≡◌, ℕ, List, ◌∷◌, ◌++◌, map, length, Ok, Err}
use Rattle.words.specs.Words.{read_word}
use Rattle.words.specs.Tree.{Statements}
use Rattle.words.specs.Encode.{encode_body}
use Rattle.faults.specs.declared.tree.ReaderFault.TheVariants.{WordDue, WordsLeft}
use Rattle.faults.specs.declared.tree.TreeFault.{TreeFault}
use Rattle.faults.specs.declared.tree.TreeFault.TheVariants.{Reader, Format, Depth, Expression, Jump}
use Rattle.checker.specs.Check.{check_script}
use Rattle.checker.specs.Rules.{Script}

-- the word that a fault speaks of, counted from 0
abbrev pub place_of : TreeFault → ℕ
place_of (Reader (WordDue at)) = at
place_of (Reader (WordsLeft at)) = at
place_of (Format at) = at
place_of (Depth at) = at
place_of (Expression at) = at
place_of (Jump at) = at

pub record Laws (count : ℕ) (words : List ℕ) : Type 0 where
  -- accepted words are a script that keeps the rules
  pub sound : check_script count (map read_word words) ≡ Ok tt → Script count (map read_word words)
  -- and such a script is accepted
  pub complete : Script count (map read_word words) → check_script count (map read_word words) ≡ Ok tt
  -- of one tree only
  pub unique : (ss ts : Statements) → map read_word words ≡ encode_body ss → map read_word words ≡ encode_body ts → ss ≡ ts
  -- whatever comes after the refused word, the refusal is the same
  pub prefix : (before : List ℕ) (word : ℕ) (after other : List ℕ) (f : TreeFault) → words ≡ before ++ word ∷ after → place_of f ≡ length before →
      check_script count (map read_word words) ≡ Err f → check_script count (map read_word (before ++ word ∷ other)) ≡ Err f
