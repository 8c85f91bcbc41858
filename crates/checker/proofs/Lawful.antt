-- The laws of the checker's verdicts, put together.
use Rattle.std.proofs.Common.{◌≡◌, ℕ, List, [], ◌∷◌, ◌++◌, map, length, Err, sym, ap, ◌∙◌, arith}
use Rattle.std.proofs.lemmas.List.{length-map}
use Rattle.words.specs.Words.{read_word}
use Rattle.encoding.proofs.Unique.{unique_body}
use Rattle.faults.specs.declared.tree.TreeFault.{TreeFault}
use Rattle.checker.specs.Check.{check_script, start}
use Rattle.checker.specs.Laws.{place_of, Laws}
use Rattle.checker.proofs.Kept.{kept_accepted}
use Rattle.checker.proofs.Accepted.{accepted_kept}
use Rattle.checker.proofs.Prefix.{refused_alike}

map_split : (before : List ℕ) (word : ℕ) (after : List ℕ) → map read_word (before ++ word ∷ after) ≡ map read_word before ++ read_word word ∷ map read_word after
map_split [] word after = ap (λ ws. ws) (λ i. read_word word ∷ map read_word after)
map_split (b ∷ before) word after = ap (λ ws. read_word b ∷ ws) (map_split before word after)

refused_same : (count : ℕ) (words before : List ℕ) (word : ℕ) (after other : List ℕ) (f : TreeFault) → words ≡ before ++ word ∷ after → place_of f ≡ length before →
    check_script count (map read_word words) ≡ Err f → check_script count (map read_word (before ++ word ∷ other)) ≡ Err f
refused_same count words before word after other f e p h =
    let l = length-map before read_word in
    ap (check_script count) (map_split before word other)
    ∙ refused_alike count (map read_word before) (read_word word) (map read_word after) (map read_word other) (start ∷ []) 0 f
    (ap (check_script count) (sym (map_split before word after) ∙ ap (map read_word) (sym e)) ∙ h) (omega arith)

pub laws : (count : ℕ) (words : List ℕ) → Laws count words
laws count words = record {
  sound = accepted_kept count (map read_word words);
  complete = kept_accepted count (map read_word words);
  unique = λ ss ts p q. (unique_body ss ts [] [] (ap (λ ws. ws ++ []) (sym p ∙ q))).0;
  prefix = refused_same count words;
}
