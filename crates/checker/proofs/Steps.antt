-- One word of a check, on frames and on what is due.
use Rattle.std.proofs.Common.{◌≡◌, ℕ, ◌+◌, ◌-◌, ◌≤◌, Bool, true, false, cond, eqb, leb, List, [], ◌∷◌, ◌++◌, length, take, drop, Ok, Err, sym, refl, ap, ◌∙◌, ap₂, subst₂, arith, length-append, length-drop, take-take, eqb-true, leb-true}
use Rattle.std.proofs.lemmas.List.{take_all, take_at, length-take-le, drop_all, drop-append-le}
use Rattle.words.specs.declared.word.Kind.{Kind}
use Rattle.words.specs.declared.word.Kind.TheVariants as kind
use Rattle.words.specs.declared.word.Word.{Word}
use Rattle.grammar.specs.declared.What.{What}
use Rattle.grammar.specs.declared.What.TheVariants.{CaseAfterDefault}
use Rattle.grammar.specs.declared.Surroundings.{Surroundings}
use Rattle.grammar.specs.declared.Surroundings.TheVariants.{Same, Nested, LoopBody, SwitchCase, LabelBody}
use Rattle.grammar.specs.declared.Part.{Part}
use Rattle.words.specs.Words.{code}
use Rattle.grammar.specs.Format.{admits, after, has_depth_lem, allows, parts}
use Rattle.checker.specs.declared.frame.Spot.{Spot}
use Rattle.checker.specs.declared.frame.Frame.{Frame}
use Rattle.faults.specs.declared.tree.TreeFault.{TreeFault}
use Rattle.faults.specs.declared.tree.TreeFault.TheVariants.{Format}
use Rattle.checker.specs.Check.{Around, Due, Verdict, depth_limit, judge, is_label_lem, is_loop, within, with_labels, surround, need, part_due, rest_due, next, and_then, check}
use Rattle.checker.specs.Held.{set_of, around_in, due_in, due_of, dues, relabelled, within_spot, placed, onto, part_frame, rest_frame, risen, opened, looped, height, Sound, Left}
use Rattle.checker.proofs.Heights.{height_least, inner_deep, sound_onto, Up, grown_sound, least, length_onto}

-- frames under so many labels do not see the others
pub dues_same : (fs : List Frame) (m n : ℕ) (os ps ls ms : List ℕ) → Sound m n fs → take m os ≡ take m ps → take n ls ≡ take n ms → dues os ls fs ≡ dues ps ms fs
dues_same [] m n os ps ls ms s e h = refl
dues_same (f ∷ fs) m n os ps ls ms s e h =
    let l = f.spot.labels in
    let i = f.spot.iterations in
    let g : take l os ≡ take l ps = sym (take-take l m os s.0) ∙ ap (take l) e ∙ take-take l m ps s.0 in
    let k : take i ls ≡ take i ms = sym (take-take i n ls s.1) ∙ ap (take i) h ∙ take-take i n ms s.1 in
    ap₂ ◌∷◌ (ap₂ (λ x y. due_in x y f) g k) (dues_same fs l i os ps ls ms s.3 g k)

dues_onto : (os ls : List ℕ) (f : Frame) (fs : List Frame) → dues os ls (onto f fs) ≡ need (due_of os ls f) (dues os ls fs)
dues_onto os ls f fs = go (eqb f.times 0)
  where
    go : (b : Bool) → dues os ls (cond b fs (f ∷ fs)) ≡ cond b (dues os ls fs) (due_of os ls f ∷ dues os ls fs)
    go true = refl
    go false = refl

-- The labels after a word and what is around its parts, by whether the word is a Label or a loop.
abbrev opened_by : Bool → ℕ → List ℕ → List ℕ
opened_by b n os = cond b (os ++ n ∷ []) os

abbrev looped_by : Bool → Bool → Spot → List ℕ → List ℕ → List ℕ
looped_by b c s os ls = cond b ls (cond c (ls ++ set_of s os) ls)

abbrev spot_by : Bool → Bool → Spot → Spot
spot_by b c s =
    cond b (relabelled (s.labels + 1) (s.set + 1) s.iterations s)
    (cond c (relabelled s.labels 0 (s.iterations + s.set) s) (relabelled s.labels 0 s.iterations s))

abbrev around_by : Bool → Bool → ℕ → Around → Around
around_by b c n a =
    cond b (with_labels (a.labels ++ n ∷ []) (a.label_set ++ n ∷ []) a.iteration_set a)
    (cond c (with_labels a.labels [] (a.iteration_set ++ a.label_set) a) (with_labels a.labels [] a.iteration_set a))

-- the labels kept are as many as the spot says
pub record Kept (s : Spot) (os ls : List ℕ) : Type 0 where
  pub labels : length os ≡ s.labels
  pub iterations : length ls ≡ s.iterations
  pub set : s.iterations + s.set ≤ s.labels

none_set : (s : Spot) (os : List ℕ) → length os ≡ s.labels → drop (s.labels - 0) (take s.labels os) ≡ []
none_set s os e = ap (drop (s.labels - 0)) (take_all s.labels os (omega arith)) ∙ drop_all (s.labels - 0) os (omega arith)

around_is : (b c : Bool) (n : ℕ) (s : Spot) (os ls : List ℕ) → Kept s os ls →
    around_in (take (spot_by b c s).labels (opened_by b n os)) (take (spot_by b c s).iterations (looped_by b c s os ls)) (spot_by b c s) ≡ around_by b c n (around_in os ls s)
around_is true c n s os ls k =
    let e = k.labels in
    let f = k.iterations in
    let g = k.set in
    let l : length (os ++ n ∷ []) ≤ s.labels + 1 = simp length-append (omega arith) in
    let p : take (s.labels + 1) (os ++ n ∷ []) ≡ os ++ n ∷ [] = take_all (s.labels + 1) _ l in
    let m : s.labels + 1 - (s.set + 1) ≡ s.labels - s.set = omega arith in
    let q : drop (s.labels + 1 - (s.set + 1)) (take (s.labels + 1) (os ++ n ∷ [])) ≡ set_of s os ++ n ∷ [] =
    ap₂ drop m p ∙ drop-append-le (s.labels - s.set) os (n ∷ []) (omega arith) in
    let r : take s.iterations ls ≡ ls = take_all s.iterations ls (omega arith) in
    λ i. record { depth = s.depth; in_loop = s.looping; in_breakable = s.breakable; labels = p i; label_set = q i; iteration_set = r i }
around_is false true n s os ls k =
    let e = k.labels in
    let f = k.iterations in
    let g = k.set in
    let p : take s.labels os ≡ os = take_all s.labels os (omega arith) in
    let q = none_set s os e in
    let l : length (ls ++ set_of s os) ≤ s.iterations + s.set = simp (length-append, length-drop) (omega arith) in
    let r : take (s.iterations + s.set) (ls ++ set_of s os) ≡ ls ++ set_of s os = take_all (s.iterations + s.set) _ l in
    λ i. record { depth = s.depth; in_loop = s.looping; in_breakable = s.breakable; labels = p i; label_set = q i; iteration_set = r i }
around_is false false n s os ls k =
    let e = k.labels in
    let f = k.iterations in
    let p : take s.labels os ≡ os = take_all s.labels os (omega arith) in
    let q = none_set s os e in
    let r : take s.iterations ls ≡ ls = take_all s.iterations ls (omega arith) in
    λ i. record { depth = s.depth; in_loop = s.looping; in_breakable = s.breakable; labels = p i; label_set = q i; iteration_set = r i }

take_opened : (b : Bool) (n : ℕ) (s : Spot) (os : List ℕ) → length os ≡ s.labels → take s.labels (opened_by b n os) ≡ os
take_opened true n s os e = take_at os (n ∷ []) s.labels e
take_opened false n s os e = take_all s.labels os (omega arith)

take_looped : (b c : Bool) (s : Spot) (os ls : List ℕ) → length ls ≡ s.iterations → take s.iterations (looped_by b c s os ls) ≡ ls
take_looped true c s os ls e = take_all s.iterations ls (omega arith)
take_looped false true s os ls e = take_at ls _ s.iterations e
take_looped false false s os ls e = take_all s.iterations ls (omega arith)

-- a part of a word stands for the part that is due
part_is : (f : Frame) (w : Word) (os ls : List ℕ) → Kept f.spot os ls → (x : What) (t : ℕ) (q : Surroundings) →
    due_of (opened w os) (looped f w os ls) (record { what = x; times = t; spot = placed q (within_spot w f.spot) })
    ≡ record { what = x; times = t; around = surround q (within w (around_in os ls f.spot)) }
part_is f w os ls k x t Same = ap (λ a. record { what = x; times = t; around = a }) (around_is (is_label_lem w.kind) (is_loop w.kind) w.number f.spot os ls k)
part_is f w os ls k x t Nested = ap (λ a. record { what = x; times = t; around = surround Nested a }) (around_is (is_label_lem w.kind) (is_loop w.kind) w.number f.spot os ls k)
part_is f w os ls k x t LoopBody = ap (λ a. record { what = x; times = t; around = surround LoopBody a }) (around_is (is_label_lem w.kind) (is_loop w.kind) w.number f.spot os ls k)
part_is f w os ls k x t SwitchCase = ap (λ a. record { what = x; times = t; around = surround SwitchCase a }) (around_is (is_label_lem w.kind) (is_loop w.kind) w.number f.spot os ls k)
part_is f w os ls k x t LabelBody = ap (λ a. record { what = x; times = t; around = surround LabelBody a }) (around_is (is_label_lem w.kind) (is_loop w.kind) w.number f.spot os ls k)

dues_part : (f : Frame) (w : Word) (os ls : List ℕ) → Kept f.spot os ls → (p : Part) (gs : List Frame) →
    dues (opened w os) (looped f w os ls) (onto (part_frame p (within_spot w f.spot)) gs)
    ≡ need (part_due p (within w (around_in os ls f.spot))) (dues (opened w os) (looped f w os ls) gs)
dues_part f w os ls k p gs =
    dues_onto (opened w os) (looped f w os ls) _ gs ∙ ap (λ d. need d (dues (opened w os) (looped f w os ls) gs)) (part_is f w os ls k p.what p.times p.surroundings)

-- what is due after a word
dues_next : (f : Frame) (w : Word) (fs : List Frame) (os ls : List ℕ) → Kept f.spot os ls → Sound f.spot.labels f.spot.iterations fs →
    dues (opened w os) (looped f w os ls) (risen f w fs) ≡ next (due_in os ls f) w (dues os ls fs)
dues_next f w fs os ls k s =
    let a = within w (around_in os ls f.spot) in
    let p = parts w in
    let os' = opened w os in
    let ls' = looped f w os ls in
    let x = take_opened (is_label_lem w.kind) w.number f.spot os k.labels in
    let y = take_looped (is_label_lem w.kind) (is_loop w.kind) f.spot os ls k.iterations in
    let r : due_of os' ls' (rest_frame f w) ≡ rest_due (due_in os ls f) w = ap₂ (λ u v. due_in u v (rest_frame f w)) x y in
    let e = k.labels in
    let g = k.iterations in
    let b : dues os' ls' fs ≡ dues os ls fs =
    dues_same fs f.spot.labels f.spot.iterations os' os ls' ls s (x ∙ sym (take_all f.spot.labels os (omega arith))) (y ∙ sym (take_all f.spot.iterations ls (omega arith))) in
    dues_part f w os ls k p.first _ ∙ ap (need (part_due p.first a))
    (dues_part f w os ls k p.second _ ∙ ap (need (part_due p.second a))
    (dues_part f w os ls k p.third _ ∙ ap (need (part_due p.third a))
    (dues_part f w os ls k p.fourth _ ∙ ap (need (part_due p.fourth a))
    (dues_onto os' ls' _ fs ∙ ap₂ need r b))))

-- what an accepted word has shown
pub record Passed (d : Due) (w : Word) : Type 0 where
  pub stood : admits d.what w.kind ≡ true
  pub shallow : has_depth_lem d.what ≡ true → d.around.depth ≤ depth_limit

stood_up : (b n : Bool) (v : Verdict) (at : ℕ) → cond (cond b n false) v (Err (Format at)) ≡ Ok tt → b ≡ true
stood_up true n v at h = refl
stood_up false n v at h = cc

past : (b : Bool) (v : Verdict) (f : TreeFault) → cond b v (Err f) ≡ Ok tt → (b ≡ true) × (v ≡ Ok tt)
past true v f h = (refl, h)
past false v f h = absurd (let z : ◌≡◌ {A = ℕ} 0 1 = cc in omega arith)

shallow_of : (x y : Bool) → cond x y true ≡ true → x ≡ true → y ≡ true
shallow_of true y h e = h
shallow_of false y h e = absurd (let z : ◌≡◌ {A = ℕ} 0 1 = cc in omega arith)

pub passed : (count : ℕ) (d : Due) (w : Word) (at : ℕ) → judge count d w at ≡ Ok tt → Passed d w
passed count d w at j = record {
  stood = stood_up (admits d.what w.kind) (allows w.kind w.number) _ at j;
  shallow = λ e. leb-true _ _ (shallow_of (has_depth_lem d.what) (leb d.around.depth depth_limit) (past _ _ _ (past _ _ _ j).1).0 e);
}

height_after : (x : What) (k : Kind) → admits x k ≡ true → height x ≤ height (after x k)
height_after x k h = go (eqb (code k) (code kind.Default)) refl
  where
    none : (j : Kind) → code j ≡ code kind.Default → least j ≡ 0
    none kind.Unlisted e = absurd (omega arith)
    none kind.Empty e = absurd (omega arith)
    none kind.Block e = absurd (omega arith)
    none kind.Expr e = absurd (omega arith)
    none kind.Var e = absurd (omega arith)
    none kind.Let e = absurd (omega arith)
    none kind.If e = absurd (omega arith)
    none kind.For e = absurd (omega arith)
    none kind.While e = absurd (omega arith)
    none kind.Do e = absurd (omega arith)
    none kind.Switch e = absurd (omega arith)
    none kind.Label e = absurd (omega arith)
    none kind.Break e = absurd (omega arith)
    none kind.BreakTo e = absurd (omega arith)
    none kind.Continue e = absurd (omega arith)
    none kind.ContinueTo e = absurd (omega arith)
    none kind.Return e = absurd (omega arith)
    none kind.Throw e = absurd (omega arith)
    none kind.Try e = absurd (omega arith)
    none kind.Body e = refl
    none kind.Catch e = refl
    none kind.CatchName e = refl
    none kind.Case e = refl
    none kind.Default e = refl
    none kind.Expression e = absurd (omega arith)
    none kind.Sequence e = absurd (omega arith)
    none kind.Name e = absurd (omega arith)
    none kind.NameInit e = absurd (omega arith)

    go : (b : Bool) → eqb (code k) (code kind.Default) ≡ b → height x ≤ height (cond b CaseAfterDefault x)
    go true e = let l = none k (eqb-true (code k) (code kind.Default) e) in let m = height_least x k h in omega arith
    go false e = omega arith

labels_reach : (b c : Bool) (n : ℕ) (s : Spot) (os : List ℕ) → length os ≡ s.labels → (spot_by b c s).labels ≡ length (opened_by b n os)
labels_reach true c n s os e = ap (λ m. m + 1) (sym e) ∙ sym (length-append os (n ∷ []))
labels_reach false true n s os e = sym e
labels_reach false false n s os e = sym e

iterations_reach : (b c : Bool) (s : Spot) (os ls : List ℕ) → Kept s os ls → (spot_by b c s).iterations ≡ length (looped_by b c s os ls)
iterations_reach true c s os ls k = sym k.iterations
iterations_reach false true s os ls k =
    let e = k.labels in
    let g = k.iterations in
    let h = k.set in
    let l : s.labels - (s.labels - s.set) ≡ s.set = omega arith in
    sym (length-append ls (set_of s os) ∙ ap₂ (λ x y. x + y) g (length-drop (s.labels - s.set) os ∙ ap (λ x. x - (s.labels - s.set)) e ∙ l))
iterations_reach false false s os ls k = sym k.iterations

-- the frames after an accepted word
sound_next : (count : ℕ) (f : Frame) (fs : List Frame) (m n : ℕ) (os ls : List ℕ) (w : Word) (at : ℕ) → Kept f.spot os ls → Sound m n (f ∷ fs) →
    judge count (due_in os ls f) w at ≡ Ok tt → Sound (length (opened w os)) (length (looped f w os ls)) (risen f w fs)
sound_next count f fs m n os ls w at k s j =
    let h = passed count (due_in os ls f) w at j in
    let g : Frame = rest_frame f w in
    let a = height_after f.what w.kind h.stood in
    let b = height_least f.what w.kind h.stood in
    let fit = s.2 in
    let base : Sound f.spot.labels f.spot.iterations (onto g fs) =
    sound_onto g fs f.spot.labels f.spot.iterations s.3 (omega arith) (omega arith) (λ p. record { some = p; set = fit.set; labels = fit.labels; depth = fit.depth; under = omega arith }) in
    let l = length_onto g fs in
    let up : Up f.spot (onto g fs) (least w.kind + 1) = record { sound = base; set = fit.set; labels = fit.labels; depth = fit.depth; under = omega arith } in
    let x = labels_reach (is_label_lem w.kind) (is_loop w.kind) w.number f.spot os k.labels in
    let y = iterations_reach (is_label_lem w.kind) (is_loop w.kind) f.spot os ls k in
    subst₂ (λ u v. Sound u v (risen f w fs)) x y (grown_sound w.kind w.number f.spot (onto g fs) up (λ i. h.shallow (inner_deep f.what w.kind h.stood i)))

pub kept : (f : Frame) (fs : List Frame) (os ls : List ℕ) → Sound (length os) (length ls) (f ∷ fs) → Kept f.spot (take f.spot.labels os) (take f.spot.iterations ls)
kept f fs os ls s = record {
  labels = length-take-le f.spot.labels os s.0;
  iterations = length-take-le f.spot.iterations ls s.1;
  set = s.2.set;
}

-- one accepted word
pub left_next : (count : ℕ) (f : Frame) (fs : List Frame) (os ls : List ℕ) (w : Word) (ws : List Word) (at : ℕ) → Sound (length os) (length ls) (f ∷ fs) →
    judge count (due_of os ls f) w at ≡ Ok tt →
    Left count (risen f w fs) (opened w (take f.spot.labels os)) (looped f w (take f.spot.labels os) (take f.spot.iterations ls)) ws (at + 1)
    (check count (dues os ls (f ∷ fs)) (w ∷ ws) at)
unfolding check
left_next count f fs os ls w ws at s j =
    let ps = take f.spot.labels os in
    let ms = take f.spot.iterations ls in
    let k = kept f fs os ls s in
    let d : dues ps ms fs ≡ dues os ls fs =
    dues_same fs f.spot.labels f.spot.iterations ps os ms ls s.3 (take-take _ _ os (omega arith)) (take-take _ _ ls (omega arith)) in
    record {
      sound = sound_next count f fs (length os) (length ls) ps ms w at k s j;
      same = ap (λ ds. check count ds ws (at + 1)) (dues_next f w fs ps ms k s.3 ∙ ap (next (due_of os ls f) w) d)
          ∙ sym (ap (λ v. and_then v (check count (next (due_of os ls f) w (dues os ls fs)) ws (at + 1))) j);
    }

-- one refused word
pub left_refused : (count : ℕ) (f : Frame) (fs : List Frame) (os ls : List ℕ) (w : Word) (ws : List Word) (at : ℕ) (r : TreeFault) →
    judge count (due_of os ls f) w at ≡ Err r → check count (dues os ls (f ∷ fs)) (w ∷ ws) at ≡ Err r
unfolding check
left_refused count f fs os ls w ws at r j = ap (λ v. and_then v (check count (next (due_of os ls f) w (dues os ls fs)) ws (at + 1))) j
