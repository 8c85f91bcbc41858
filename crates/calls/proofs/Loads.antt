-- The laws of load, from those of the checker and of the weight.
use Rattle.std.proofs.Common.{◌≡◌, ℕ, ◌*◌, Bool, true, false, cond, ◌||◌, eqb, ltb, List, map, length, take, Ok, Err, Result, refl, ap, ◌∙◌, ap₂, arith}
use Rattle.words.specs.Words.{read_word}
use Rattle.words.specs.Words.{max_words}
use Rattle.scan.specs.Weight.{weight_words}
use Rattle.scan.proofs.Weights.{weight_of_body}
use Rattle.faults.specs.declared.tree.TreeFault.{TreeFault}
use Rattle.checker.specs.Check.{Verdict, check_script}
use Rattle.checker.proofs.Lawful.{laws}
use Rattle.faults.specs.declared.call.CallFault.{CallFault}
use Rattle.faults.specs.declared.call.CallFault.TheVariants.{Used, TooLong, WorkingWords, Labels, Tree}
use Rattle.calls.specs.declared.record.Record.{Record}
use Rattle.calls.specs.Load.{working_share, most_labels, lengths_refused, script_words, checked, recorded, new_record}
use Rattle.calls.specs.LoadLaws.{LoadLaws}

-- an accepted load had the right lengths and an accepting verdict
was_accepted : (l : Result (Unit {0}) CallFault) (v : Verdict) (n r : Record) → recorded (checked l v) n ≡ Ok r → v ≡ Ok tt
was_accepted (Err f) v n r e = absurd (let z : ◌≡◌ {A = ℕ} 0 1 = cc in omega arith)
was_accepted (Ok x) (Err f) n r e = absurd (let z : ◌≡◌ {A = ℕ} 0 1 = cc in omega arith)
was_accepted (Ok x) (Ok y) n r e = refl

length_fault : (p q r s : Bool) (a b c : ℕ) (f : TreeFault) →
    ◌≡◌ {A = Result (Unit {0}) CallFault} (cond p (Err (Used a)) (cond q (Err (TooLong a)) (cond r (Err (WorkingWords b)) (cond s (Err (Labels c)) (Ok tt))))) (Err (Tree f)) → ⊥
length_fault true q r s a b c f e = let z : ◌≡◌ {A = ℕ} 0 1 = cc in omega arith
length_fault false true r s a b c f e = let z : ◌≡◌ {A = ℕ} 0 1 = cc in omega arith
length_fault false false true s a b c f e = let z : ◌≡◌ {A = ℕ} 0 1 = cc in omega arith
length_fault false false false true a b c f e = let z : ◌≡◌ {A = ℕ} 0 1 = cc in omega arith
length_fault false false false false a b c f e = let z : ◌≡◌ {A = ℕ} 0 1 = cc in omega arith

-- a word is refused by the verdict alone
was_refused : (l : Result (Unit {0}) CallFault) (v : Verdict) (n : Record) (f : TreeFault) → (l ≡ Err (Tree f) → ⊥) → recorded (checked l v) n ≡ Err (Tree f) → v ≡ Err f
was_refused (Err g) v n f h e = absurd (h cc)
was_refused (Ok x) (Err g) n f h e = cc
was_refused (Ok x) (Ok y) n f h e = absurd (let z : ◌≡◌ {A = ℕ} 0 1 = cc in omega arith)

refused_by : (space : ℕ) (used working labels : ℕ) (v : Verdict) (n : Record) (f : TreeFault) → recorded (checked (lengths_refused space used working labels) v) n ≡ Err (Tree f) → v ≡ Err f
refused_by space used working labels v n f e =
    was_refused (lengths_refused space used working labels) v n f
    (λ h. length_fault (eqb used 0 || ltb space used) (ltb max_words used) (ltb working (working_share * used)) (ltb most_labels labels) used working labels f h) e

pub load_laws : (count : ℕ) (space : List ℕ) (used working labels : ℕ) → LoadLaws count space used working labels
load_laws count space used working labels =
    let w = laws count (take used space) in
    let v = check_script count (script_words used space) in
    let n = new_record space used in
    record {
      sound = λ r e. w.sound (was_accepted (lengths_refused (length space) used working labels) v n r e);
      complete = λ l s. ap₂ (λ x y. recorded (checked x y) n) l (w.complete s);
      unique = w.unique;
      weight = λ ss e. ap weight_words e ∙ weight_of_body ss;
      prefix = λ before word after f e p r other length' working' labels' rest l t.
          let here = refused_by (length space) used working labels v n f r in
          let there = w.prefix before word after rest f e p here in
          ap₂ (λ x y. recorded (checked x y) (new_record other length')) l (ap (λ ws. check_script count (map read_word ws)) t ∙ there);
    }
