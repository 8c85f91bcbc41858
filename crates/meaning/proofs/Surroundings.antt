-- Surroundings: what keeps the rules in some keeps them in wider ones, and labels that no ContinueTo inside goes to change nothing.
use Rattle.std.proofs.Common.{◌≡◌, ℕ, zero, suc, ◌≤◌, Bool, true, false, cond, eqb, List, [], ◌∷◌, ◌++◌, Option, sym, refl, ap, ◌∙◌, le_trans, arith, eqb→eq, ◌||◌}
use Rattle.host.specs.Model.{Model, by_var, by_let}
use Rattle.meaning.specs.Completion.{Ending, normal, break, continue, gone, spent, break_to, continue_to, return, throw, Evaluation, loop_continues, without_break, end, ◌thereafter◌, ◌then◌, with_label, one_round, if_continues, turns, loop}
use Rattle.meaning.specs.Run.{bound_names, eval, branch, branch_optional, declare, scope, while_loop, do_loop, for_body, for_loop, run}
use Rattle.words.specs.Tree.{Expression, Start, no_start, start_expression, start_var, start_let}
use Rattle.words.specs.Tree.{Statement, Empty, Break, Continue, Block, Expr, Throw, Var, If, IfElse, For, While, Do, Switch, Label, BreakTo, ContinueTo, Return, TryCatch, TryFinally, TryBoth}
use Rattle.words.specs.Tree.{Statements, none, some, Let, Cases, no_case, case}
use Rattle.checker.specs.Check.{Around, depth_limit}
use Rattle.slices.specs.Among.{among}
use Rattle.checker.specs.Rules.{Keeps, KeepsList, KeepsCases, inside, loop_body, switch_case, labelled, listed}
use Rattle.meaning.specs.FoldLaws.{Sound}
use Rattle.meaning.proofs.Within.{Within}
use Rattle.meaning.proofs.Script.{Allowed, among_either, stays}

pub among_append : (l : ℕ) (xs ys : List ℕ) → among l (xs ++ ys) ≡ cond (among l xs) true (among l ys)
among_append l [] ys = refl
among_append l (x ∷ xs) ys = go (eqb x l) (among_append l xs ys)
  where
    go : (b : Bool) → among l (xs ++ ys) ≡ cond (among l xs) true (among l ys) → (b || among l (xs ++ ys)) ≡ cond (b || among l xs) true (among l ys)
    go true r = refl
    go false r = r

either_true : (a b c d : Bool) → (a ≡ true → c ≡ true) → (b ≡ true → d ≡ true) → cond a true b ≡ true → cond c true d ≡ true
either_true true b c d p q r = ap (λ x. cond x true d) (p refl)
either_true false b true d p q r = refl
either_true false b false d p q r = q r

pub append_more : (l : ℕ) (xs ys zs us : List ℕ) → (among l xs ≡ true → among l zs ≡ true) → (among l ys ≡ true → among l us ≡ true) → among l (xs ++ ys) ≡ true → among l (zs ++ us) ≡ true
append_more l xs ys zs us p q r =
    among_append l zs us ∙ either_true (among l xs) (among l ys) (among l zs) (among l us) p q (sym (among_append l xs ys) ∙ r)

-- b allows whatever a does
pub record Wider (a b : Around) : Type 0 where
  pub depth : b.depth ≤ a.depth
  pub in_loop : a.in_loop ≡ true → b.in_loop ≡ true
  pub in_breakable : a.in_breakable ≡ true → b.in_breakable ≡ true
  pub labels : (l : ℕ) → among l a.labels ≡ among l b.labels
  pub label_set : (l : ℕ) → among l a.label_set ≡ true → among l b.label_set ≡ true
  pub iteration_set : (l : ℕ) → among l a.iteration_set ≡ true → among l b.iteration_set ≡ true

none_set : (bs : List ℕ) (l : ℕ) → among l [] ≡ true → among l bs ≡ true
none_set bs l q = cc

pub wider_inside : (a b : Around) → Wider a b → Wider (inside a) (inside b)
wider_inside a b p = record { depth = let q : b.depth ≤ a.depth = p.depth in omega arith; in_loop = p.in_loop; in_breakable = p.in_breakable; labels = p.labels; label_set = none_set []; iteration_set = p.iteration_set }

wider_loop : (a b : Around) → Wider a b → Wider (loop_body a) (loop_body b)
wider_loop a b p = record {
  depth = let q : b.depth ≤ a.depth = p.depth in omega arith;
  in_loop = λ _. refl;
  in_breakable = λ _. refl;
  labels = p.labels;
  label_set = none_set [];
  iteration_set = λ l. append_more l a.iteration_set a.label_set b.iteration_set b.label_set (p.iteration_set l) (p.label_set l);
}

wider_switch : (a b : Around) → Wider a b → Wider (switch_case a) (switch_case b)
wider_switch a b p = record { depth = let q : b.depth ≤ a.depth = p.depth in omega arith; in_loop = p.in_loop; in_breakable = λ _. refl; labels = p.labels; label_set = none_set []; iteration_set = p.iteration_set }

wider_listed : (a b : Around) → Wider a b → Wider (listed a) (listed b)
wider_listed a b p = record { depth = p.depth; in_loop = p.in_loop; in_breakable = p.in_breakable; labels = p.labels; label_set = none_set []; iteration_set = p.iteration_set }

wider_labelled : (l : ℕ) (a b : Around) → Wider a b → Wider (labelled l a) (labelled l b)
wider_labelled l a b p = record {
  depth = let q : b.depth ≤ a.depth = p.depth in omega arith;
  in_loop = p.in_loop;
  in_breakable = p.in_breakable;
  labels = λ x. among_append x a.labels (l ∷ []) ∙ ap (λ y. cond y true (among x (l ∷ []))) (p.labels x) ∙ sym (among_append x b.labels (l ∷ []));
  label_set = λ x. append_more x a.label_set (l ∷ []) b.label_set (l ∷ []) (p.label_set x) (λ q. q);
  iteration_set = p.iteration_set;
}

not_deep : (a b : Around) → Wider a b → a.depth ≤ depth_limit → b.depth ≤ depth_limit
not_deep a b p q = le_trans p.depth q

module _ (count : ℕ) where
  mutual
    pub widen : (a b : Around) → Wider a b → (s : Statement) → Keeps count a s → Keeps count b s
    widen a b p Empty q = not_deep a b p q
    widen a b p Break q = (not_deep a b p q.0, p.in_breakable q.1)
    widen a b p Continue q = (not_deep a b p q.0, p.in_loop q.1)
    widen a b p (Block ss) q = (not_deep a b p q.0, widen_list (inside a) (inside b) (wider_inside a b p) ss q.1)
    widen a b p (Expr e) q = (not_deep a b p q.0, q.1)
    widen a b p (Throw e) q = (not_deep a b p q.0, q.1)
    widen a b p (Var d ds) q = (not_deep a b p q.0, q.1)
    widen a b p (If e s) q = (not_deep a b p q.0, q.1, widen (inside a) (inside b) (wider_inside a b p) s q.2)
    widen a b p (IfElse e s t) q = (not_deep a b p q.0, q.1, widen (inside a) (inside b) (wider_inside a b p) s q.2, widen (inside a) (inside b) (wider_inside a b p) t q.3)
    widen a b p (For i t u s) q = (not_deep a b p q.0, q.1, q.2, q.3, widen (loop_body a) (loop_body b) (wider_loop a b p) s q.4)
    widen a b p (While e s) q = (not_deep a b p q.0, q.1, widen (loop_body a) (loop_body b) (wider_loop a b p) s q.2)
    widen a b p (Do s e) q = (not_deep a b p q.0, widen (loop_body a) (loop_body b) (wider_loop a b p) s q.1, q.2)
    widen a b p (Switch e cs) q = (not_deep a b p q.0, q.1, widen_cases (switch_case a) (switch_case b) (wider_switch a b p) cs q.2, q.3)
    widen a b p (Label l s) q = (not_deep a b p q.0, sym (p.labels l) ∙ q.1, widen (labelled l a) (labelled l b) (wider_labelled l a b p) s q.2)
    widen a b p (BreakTo l) q = (not_deep a b p q.0, sym (p.labels l) ∙ q.1)
    widen a b p (ContinueTo l) q = (not_deep a b p q.0, p.iteration_set l q.1)
    widen a b p (Return e) q = (not_deep a b p q.0, q.1)
    widen a b p (TryCatch c x d) q = (not_deep a b p q.0, widen_list (inside a) (inside b) (wider_inside a b p) c q.1, widen_list (inside a) (inside b) (wider_inside a b p) d q.2)
    widen a b p (TryFinally c f) q = (not_deep a b p q.0, widen_list (inside a) (inside b) (wider_inside a b p) c q.1, widen_list (inside a) (inside b) (wider_inside a b p) f q.2)
    widen a b p (TryBoth c x d f) q =
        (not_deep a b p q.0, widen_list (inside a) (inside b) (wider_inside a b p) c q.1, widen_list (inside a) (inside b) (wider_inside a b p) d q.2, widen_list (inside a) (inside b) (wider_inside a b p) f q.3)

    pub widen_list : (a b : Around) → Wider a b → (ss : Statements) → KeepsList count a ss → KeepsList count b ss
    widen_list a b p none q = tt
    widen_list a b p (some s ss) q = (widen a b p s q.0, widen_list a b p ss q.1)
    widen_list a b p (Let d ds ss) q = (not_deep a b p q.0, q.1, widen_list a b p ss q.2)

    pub widen_cases : (a b : Around) → Wider a b → (cs : Cases) → KeepsCases count a cs → KeepsCases count b cs
    widen_cases a b p no_case q = tt
    widen_cases a b p (case t ss cs) q = (not_deep a b p q.0, q.1, widen_list (listed a) (listed b) (wider_listed a b p) ss q.2, widen_cases a b p cs q.3)

-- out of a statement into its place
pub wider_out : (a : Around) → Wider (inside a) a
wider_out a = record { depth = omega arith; in_loop = λ q. q; in_breakable = λ q. q; labels = λ l. refl; label_set = none_set a.label_set; iteration_set = λ l q. q }

pub keeps_deep : (count : ℕ) (a : Around) (s : Statement) → Keeps count a s → a.depth ≤ depth_limit
keeps_deep count a Empty q = q
keeps_deep count a Break q = q.0
keeps_deep count a Continue q = q.0
keeps_deep count a (Block ss) q = q.0
keeps_deep count a (Expr e) q = q.0
keeps_deep count a (Throw e) q = q.0
keeps_deep count a (Var d ds) q = q.0
keeps_deep count a (If e s) q = q.0
keeps_deep count a (IfElse e s t) q = q.0
keeps_deep count a (For i t u s) q = q.0
keeps_deep count a (While e s) q = q.0
keeps_deep count a (Do s e) q = q.0
keeps_deep count a (Switch e cs) q = q.0
keeps_deep count a (Label l s) q = q.0
keeps_deep count a (BreakTo l) q = q.0
keeps_deep count a (ContinueTo l) q = q.0
keeps_deep count a (Return e) q = q.0
keeps_deep count a (TryCatch b x c) q = q.0
keeps_deep count a (TryFinally b f) q = q.0
keeps_deep count a (TryBoth b x c f) q = q.0

pub sound_inside : (a : Around) → Sound a → Sound (inside a)
sound_inside a p = record { apart = λ l q. refl; targets = p.targets; own = λ l q. cc }

pub sound_switch : (a : Around) → Sound a → Sound (switch_case a)
sound_switch a p = record { apart = λ l q. refl; targets = p.targets; own = λ l q. cc }

pub sound_listed : (a : Around) → Sound a → Sound (listed a)
sound_listed a p = record { apart = λ l q. refl; targets = p.targets; own = λ l q. cc }

both_in : (l : ℕ) (xs ys zs : List ℕ) → (among l xs ≡ true → among l zs ≡ true) → (among l ys ≡ true → among l zs ≡ true) → among l (xs ++ ys) ≡ true → among l zs ≡ true
both_in l xs ys zs p q r = go (among l xs) refl
  where
    go : (b : Bool) → among l xs ≡ b → among l zs ≡ true
    go true s = p s
    go false s = q (sym (ap (λ y. cond y true (among l ys)) s) ∙ sym (among_append l xs ys) ∙ r)

pub sound_loop : (a : Around) → Sound a → Sound (loop_body a)
sound_loop a p = record { apart = λ l q. refl; targets = λ l. both_in l a.iteration_set a.label_set a.labels (p.targets l) (p.own l); own = λ l q. cc }

pub sound_labelled : (a : Around) (l : ℕ) → among l a.labels ≡ false → Sound a → Sound (labelled l a)
sound_labelled a l new p = record {
  apart = λ x q. among_append x a.label_set (l ∷ []) ∙ (λ i. cond (p.apart x q i) true (other x q i || false));
  targets = λ x q. append_more x a.labels [] a.labels (l ∷ []) (λ r. r) (λ r. cc) (among_append x a.labels [] ∙ ap (λ y. cond y true false) (p.targets x q));
  own = λ x. append_more x a.label_set (l ∷ []) a.labels (l ∷ []) (p.own x) (λ r. r);
}
  where
    go : (x : ℕ) → among x a.labels ≡ true → (b : Bool) → eqb l x ≡ b → b ≡ false
    go x q true s = let e : l ≡ x = eqb→eq l x (rw s tt) in sym q ∙ ap (λ y. among y a.labels) (sym e) ∙ new
    go x q false s = refl

    other : (x : ℕ) → among x a.iteration_set ≡ true → eqb l x ≡ false
    other x q = go x (p.targets x q) (eqb l x) refl

-- X agrees with the labels set on a statement wherever a ContinueTo inside may go
abbrev Agree : Around → List ℕ → Type 0
Agree a X = (l : ℕ) → (among l a.iteration_set ≡ true → among l X ≡ among l a.label_set) × (among l a.label_set ≡ true → among l X ≡ true)

agree_among : (a : Around) (X : List ℕ) → Agree a X → (l : ℕ) → among l (a.iteration_set ++ a.label_set) ≡ true → among l X ≡ among l a.label_set
agree_among a X p l q = go (among l a.label_set) refl
  where
    go : (b : Bool) → among l a.label_set ≡ b → among l X ≡ among l a.label_set
    go true r = (p l).1 r ∙ sym r
    go false r = (p l).0 (among_either l a.iteration_set a.label_set q r)

same_continues : (a : Around) (X : List ℕ) → Agree a X → (e : Ending) → Allowed (loop_body a) e → loop_continues X e ≡ loop_continues a.label_set e
same_continues a X p normal q = refl
same_continues a X p break q = refl
same_continues a X p continue q = refl
same_continues a X p gone q = refl
same_continues a X p spent q = refl
same_continues a X p (break_to l) q = refl
same_continues a X p (continue_to l) q = agree_among a X p l q
same_continues a X p (return v) q = refl
same_continues a X p (throw v) q = refl

same_turns : (a : Around) (X : List ℕ) → Agree a X → (body : Evaluation) (again : Evaluation → Evaluation) → Within (Allowed (loop_body a)) body → (n : ℕ) →
    turns X body again n ≡ turns a.label_set body again n
unfolding turns ◌thereafter◌ if_continues
same_turns a X p body again q zero = refl
same_turns a X p body again q (suc n) =
    ap (λ x. one_round (body thereafter if_continues X (again x))) (same_turns a X p body again q n)
    ∙ (λ i. one_round (λ k w. cond (same_continues a X p (body k w).ending (q k w).0 i) (again (turns a.label_set body again n)) (end (without_break (body k w).ending)) (body k w).rounds (body k w).world))

same_loop : (a : Around) (X : List ℕ) → Agree a X → (body : Evaluation) (again : Evaluation → Evaluation) → Within (Allowed (loop_body a)) body → loop X body again ≡ loop a.label_set body again
unfolding loop
same_loop a X p body again q = λ i k w. same_turns a X p body again q k i k w

agree_label : (a : Around) (X : List ℕ) (l : ℕ) → Agree a X → Agree (labelled l a) (X ++ l ∷ [])
agree_label a X l p x = (
  λ q. among_append x X (l ∷ []) ∙ ap (λ y. cond y true (among x (l ∷ []))) ((p x).0 q) ∙ sym (among_append x a.label_set (l ∷ [])),
  append_more x a.label_set (l ∷ []) X (l ∷ []) (p x).1 (λ r. r),
)

module _ (m : Model) where
  same_for : (i : Start) (t u : Option Expression) (body : Evaluation) (X Y : List ℕ) → ((again : Evaluation → Evaluation) → loop X body again ≡ loop Y body again) →
      for_loop m i X t u body ≡ for_loop m i Y t u body
  unfolding for_loop for_body
  same_for no_start t u body X Y p = ap (λ x. branch_optional m t x (end normal)) (p _)
  same_for (start_expression e) t u body X Y p = ap (λ x. eval m e (λ _. branch_optional m t x (end normal))) (p _)
  same_for (start_var d ds) t u body X Y p = ap (λ x. declare m by_var (d ∷ ds) then branch_optional m t x (end normal)) (p _)
  same_for (start_let d ds) t u body X Y p = ap (λ x. scope m (bound_names (d ∷ ds)) (declare m by_let (d ∷ ds) then branch_optional m t x (end normal))) (p _)

  relabel : (count : ℕ) (a : Around) (s : Statement) → Keeps count a s → (X : List ℕ) → Agree a X → run m s X ≡ run m s a.label_set
  unfolding run while_loop do_loop
  relabel count a Empty q X p = refl
  relabel count a Break q X p = refl
  relabel count a Continue q X p = refl
  relabel count a (Block ss) q X p = refl
  relabel count a (Expr e) q X p = refl
  relabel count a (Throw e) q X p = refl
  relabel count a (Var d ds) q X p = refl
  relabel count a (If e s) q X p = refl
  relabel count a (IfElse e s t) q X p = refl
  relabel count a (For i t u s) q X p = same_for i t u _ X a.label_set (λ again. same_loop a X p (run m s []) again (stays m count (loop_body a) s q.4))
  relabel count a (While e s) q X p = ap (λ x. branch m e x (end normal)) (same_loop a X p (run m s []) _ (stays m count (loop_body a) s q.2))
  relabel count a (Do s e) q X p = same_loop a X p (run m s []) _ (stays m count (loop_body a) s q.1)
  relabel count a (Switch e cs) q X p = refl
  relabel count a (Label l s) q X p = ap (with_label l) (relabel count (labelled l a) s q.2 (X ++ l ∷ []) (agree_label a X l p))
  relabel count a (BreakTo l) q X p = refl
  relabel count a (ContinueTo l) q X p = refl
  relabel count a (Return e) q X p = refl
  relabel count a (TryCatch b x c) q X p = refl
  relabel count a (TryFinally b f) q X p = refl
  relabel count a (TryBoth b x c f) q X p = refl

  -- a statement taken out of one with these labels set on it runs as inside it
  pub run_out : (count : ℕ) (a : Around) (s : Statement) → Sound a → Keeps count (inside a) s → run m s a.label_set ≡ run m s []
  run_out count a s p q = relabel count (inside a) s q a.label_set (λ l. (p.apart l, λ r. cc))
