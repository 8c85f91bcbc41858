-- A refusal depends on no word after the refused one.
use Rattle.std.proofs.Common.{◌≡◌, ℕ, ◌+◌, ◌≤◌, Bool, true, false, cond, List, [], ◌∷◌, ◌++◌, length, Ok, Err, refl, ap, arith}
use Rattle.words.specs.declared.word.Word.{Word}
use Rattle.grammar.specs.Format.{admits, allows}
use Rattle.faults.specs.declared.tree.TreeFault.{TreeFault}
use Rattle.faults.specs.declared.tree.TreeFault.TheVariants.{Format, Depth, Expression, Jump}
use Rattle.checker.specs.Check.{Due, Verdict, jumps_well, is_known, not_deep, judge, next, and_then, check}
use Rattle.checker.specs.Laws.{place_of}

same_fault : (f g : TreeFault) → ◌≡◌ {A = Verdict} (Err f) (Err g) → f ≡ g
same_fault f g e = cc

no_fault : {A : Type 0} (f : TreeFault) → ◌≡◌ {A = Verdict} (Ok tt) (Err f) → A
no_fault f e = absurd (let z : ◌≡◌ {A = ℕ} 0 1 = cc in omega arith)

refused_here : (p q r s : Bool) (at : ℕ) (f : TreeFault) →
    ◌≡◌ {A = Verdict} (cond p (cond q (cond r (cond s (Ok tt) (Err (Jump at))) (Err (Expression at))) (Err (Depth at))) (Err (Format at))) (Err f) → at ≡ place_of f
refused_here true true true true at f e = no_fault f e
refused_here true true true false at f e = ap place_of (same_fault (Jump at) f e)
refused_here true true false s at f e = ap place_of (same_fault (Expression at) f e)
refused_here true false r s at f e = ap place_of (same_fault (Depth at) f e)
refused_here false q r s at f e = ap place_of (same_fault (Format at) f e)

judged_here : (c : ℕ) (d : Due) (w : Word) (at : ℕ) (f : TreeFault) → judge c d w at ≡ Err f → at ≡ place_of f
judged_here c d w at f e =
    refused_here (cond (admits d.what w.kind) (allows w.kind w.number) false) (not_deep d.what d.around) (is_known c w.kind w.number) (jumps_well w.kind w.number d.around) at f e

-- no fault lies before the words that are checked
no_earlier : (c : ℕ) (ws : List Word) (ds : List Due) (at : ℕ) (f : TreeFault) → check c ds ws at ≡ Err f → at ≤ place_of f
unfolding check
no_earlier c [] [] at f e = no_fault f e
no_earlier c [] (d ∷ ds) at f e = let p = ap place_of (same_fault _ f e) in omega arith
no_earlier c (w ∷ ws) [] at f e = let p = ap place_of (same_fault _ f e) in omega arith
no_earlier c (w ∷ ws) (d ∷ ds) at f e = go (judge c d w at) refl (λ r. no_earlier c ws (next d w ds) (at + 1) f r) e
  where
    go : (v : Verdict) → judge c d w at ≡ v → (check c (next d w ds) ws (at + 1) ≡ Err f → at + 1 ≤ place_of f) →
        and_then v (check c (next d w ds) ws (at + 1)) ≡ Err f → at ≤ place_of f
    go (Ok x) j more e = let p = more e in omega arith
    go (Err g) j more e = let p = judged_here c d w at g j in let q = ap place_of (same_fault g f e) in omega arith

pub refused_alike : (c : ℕ) (before : List Word) (w : Word) (after other : List Word) (ds : List Due) (at : ℕ) (f : TreeFault) →
    check c ds (before ++ w ∷ after) at ≡ Err f → place_of f ≡ at + length before → check c ds (before ++ w ∷ other) at ≡ Err f
unfolding check
refused_alike c [] w after other [] at f e p = e
refused_alike c [] w after other (d ∷ ds) at f e p = go (judge c d w at) e
  where
    go : (v : Verdict) → and_then v (check c (next d w ds) after (at + 1)) ≡ Err f → and_then v (check c (next d w ds) other (at + 1)) ≡ Err f
    go (Ok x) e = absurd (let q = no_earlier c after (next d w ds) (at + 1) f e in omega arith)
    go (Err g) e = e
refused_alike c (v ∷ before) w after other [] at f e p = e
refused_alike c (v ∷ before) w after other (d ∷ ds) at f e p =
    go (judge c d v at) (λ r. refused_alike c before w after other (next d v ds) (at + 1) f r (omega arith)) e
  where
    go : (u : Verdict) → (check c (next d v ds) (before ++ w ∷ after) (at + 1) ≡ Err f → check c (next d v ds) (before ++ w ∷ other) (at + 1) ≡ Err f) →
        and_then u (check c (next d v ds) (before ++ w ∷ after) (at + 1)) ≡ Err f → and_then u (check c (next d v ds) (before ++ w ∷ other) (at + 1)) ≡ Err f
    go (Ok x) more e = more e
    go (Err g) more e = e
