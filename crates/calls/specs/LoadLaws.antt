-- What an answer of load means: it accepts exactly the scripts that keep the rules, within the limits of length; the
-- record's weight is that of the script's tree, of which there is one; and a refused word stays refused with the
-- same number and place, whatever comes after it.
use Rattle.std.specs.Prelude.{◌≡◌, ℕ, List, ◌∷◌, ◌++◌, length, take, Ok, Err}
use Rattle.words.specs.Tree.{Statements}
use Rattle.words.specs.Encode.{encode_body}
use Rattle.scan.specs.Weight.{weight_body}
use Rattle.faults.specs.declared.tree.TreeFault.{TreeFault}
use Rattle.checker.specs.Laws.{place_of}
use Rattle.checker.specs.Rules.{Script}
use Rattle.faults.specs.declared.call.CallFault.TheVariants.{Tree}
use Rattle.calls.specs.declared.record.Record.{Record}
use Rattle.calls.specs.Load.{lengths_refused, script_words, new_record, load_answer}

pub record LoadLaws (count : ℕ) (space : List ℕ) (used working labels : ℕ) : Type 0 where
  -- what is accepted is a script that keeps the rules
  pub sound : (r : Record) → load_answer count space used working labels ≡ Ok r → Script count (script_words used space)
  -- every such script is, where the lengths are right
  pub complete : lengths_refused (length space) used working labels ≡ Ok tt → Script count (script_words used space) →
      load_answer count space used working labels ≡ Ok (new_record space used)
  -- the script is the words of one tree only, whose weight the record holds
  pub unique : (ss ts : Statements) → script_words used space ≡ encode_body ss → script_words used space ≡ encode_body ts → ss ≡ ts
  pub weight : (ss : Statements) → script_words used space ≡ encode_body ss → (new_record space used).weight ≡ weight_body ss
  -- a word that is refused is refused alike in every other space that has the same words up to it
  pub prefix : (before : List ℕ) (word : ℕ) (after : List ℕ) (f : TreeFault) → take used space ≡ before ++ word ∷ after → place_of f ≡ length before →
      load_answer count space used working labels ≡ Err (Tree f) →
      (other : List ℕ) (length' working' labels' : ℕ) (rest : List ℕ) → lengths_refused (length other) length' working' labels' ≡ Ok tt → take length' other ≡ before ++ word ∷ rest →
      load_answer count other length' working' labels' ≡ Err (Tree f)
