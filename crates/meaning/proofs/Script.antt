-- The jumps of an accepted script stay inside it.
use Rattle.std.proofs.Common.{◌≡◌, ℕ, Bool, true, false, cond, eqb, List, [], ◌∷◌, ◌++◌, refl, ap, subst, arith, ◌||◌}
use Rattle.host.specs.Model.{Model, by_var, by_let}
use Rattle.meaning.specs.Completion.{Ending, normal, break, continue, gone, spent, break_to, continue_to, return, throw, loop_continues, without_break, without_break_to}
use Rattle.meaning.specs.Run.{let_names, let_names_cases, switch, run, run_list, run_cases, run_body}
use Rattle.words.specs.Tree.{Statement, Empty, Break, Continue, Block, Expr, Throw, Var, If, IfElse, For, While, Do, Switch, Label, BreakTo, ContinueTo, Return, TryCatch, TryFinally, TryBoth}
use Rattle.words.specs.Tree.{Statements, none, some, Let, Cases, no_case, case}
use Rattle.checker.specs.Check.{Around, nowhere}
use Rattle.slices.specs.Among.{among}
use Rattle.checker.specs.Rules.{Keeps, KeepsList, KeepsCases, inside, loop_body, switch_case, labelled, listed}
use Rattle.meaning.specs.Laws.{EndsScript, AcceptedEnds}
use Rattle.meaning.proofs.Within.{Within, Open, within_end, within_eval, within_declare, within_branch, within_for, within_while, within_do, within_breakable, within_cases, AllWithin, within_label, within_return, within_try, within_scoped, within_both, within_list}

-- the endings that a statement can have in a loop, in a loop or Switch, under these labels and inside loops with these set on them
abbrev pub AllowedIn : Bool → Bool → List ℕ → List ℕ → Ending → Type 0
AllowedIn loops breakables labels targets normal = Unit {0}
AllowedIn loops breakables labels targets break = breakables ≡ true
AllowedIn loops breakables labels targets continue = loops ≡ true
AllowedIn loops breakables labels targets gone = Unit {0}
AllowedIn loops breakables labels targets spent = Unit {0}
AllowedIn loops breakables labels targets (break_to l) = among l labels ≡ true
AllowedIn loops breakables labels targets (continue_to l) = among l targets ≡ true
AllowedIn loops breakables labels targets (return v) = Unit {0}
AllowedIn loops breakables labels targets (throw v) = Unit {0}

abbrev pub Allowed : Around → Ending → Type 0
Allowed a = AllowedIn a.in_loop a.in_breakable a.labels a.iteration_set

pub allowed_open : (a : Around) → Open (Allowed a)
allowed_open a = record { on_throw = λ v. tt; on_gone = tt; on_spent = tt }

pub among_either : (l : ℕ) (xs ys : List ℕ) → among l (xs ++ ys) ≡ true → among l ys ≡ false → among l xs ≡ true
among_either l [] ys p q = cc
among_either l (x ∷ xs) ys p q = go (eqb x l) (among_either l xs ys) p
  where
    go : (b : Bool) → (among l (xs ++ ys) ≡ true → among l ys ≡ false → among l xs ≡ true) → b || among l (xs ++ ys) ≡ true → b || among l xs ≡ true
    go true r p = refl
    go false r p = r p q

-- an ending that leaves a loop
leaves_loop : (a : Around) (e : Ending) → Allowed (loop_body a) e → loop_continues a.label_set e ≡ false → Allowed a (without_break e)
leaves_loop a normal p q = tt
leaves_loop a break p q = tt
leaves_loop a continue p q = cc
leaves_loop a gone p q = tt
leaves_loop a spent p q = tt
leaves_loop a (break_to l) p q = p
leaves_loop a (continue_to l) p q = among_either l a.iteration_set a.label_set p q
leaves_loop a (return v) p q = tt
leaves_loop a (throw v) p q = tt

leaves_switch : (a : Around) (e : Ending) → Allowed (switch_case a) e → Allowed a (without_break e)
leaves_switch a normal p = tt
leaves_switch a break p = tt
leaves_switch a continue p = p
leaves_switch a gone p = tt
leaves_switch a spent p = tt
leaves_switch a (break_to l) p = p
leaves_switch a (continue_to l) p = p
leaves_switch a (return v) p = tt
leaves_switch a (throw v) p = tt

among_last : (t l : ℕ) (xs : List ℕ) → among t (xs ++ l ∷ []) ≡ true → eqb l t ≡ false → among t xs ≡ true
among_last t l xs p q = among_either t xs (l ∷ []) p (ap (λ b. b || false) q)

leaves_label : (a : Around) (l : ℕ) (e : Ending) → Allowed (labelled l a) e → Allowed a (without_break_to l e)
leaves_label a l normal p = tt
leaves_label a l break p = p
leaves_label a l continue p = p
leaves_label a l gone p = tt
leaves_label a l spent p = tt
leaves_label a l (break_to t) p = go (eqb l t) refl
  where
    go : (b : Bool) → eqb l t ≡ b → Allowed a (cond b normal (break_to t))
    go true q = tt
    go false q = among_last t l a.labels p q
leaves_label a l (continue_to t) p = p
leaves_label a l (return v) p = tt
leaves_label a l (throw v) p = tt

module _ (m : Model) (count : ℕ) where
  mutual
    unfolding run switch

    pub stays : (a : Around) (s : Statement) → Keeps count a s → Within (Allowed a) (run m s a.label_set)
    stays a Empty q = within_end (Allowed a) _ tt
    stays a Break q = within_end (Allowed a) _ q.1
    stays a Continue q = within_end (Allowed a) _ q.1
    stays a (Block ss) q = within_scoped (Allowed a) (allowed_open a) m (let_names ss) _ (stays_list (inside a) ss q.1 refl)
    stays a (Expr e) q = within_eval (Allowed a) (allowed_open a) m e _ (λ v. within_end (Allowed a) _ tt)
    stays a (Throw e) q = within_eval (Allowed a) (allowed_open a) m e _ (λ v. within_end (Allowed a) _ tt)
    stays a (Var d ds) q = within_declare (Allowed a) (allowed_open a) m by_var (d ∷ ds) tt
    stays a (If e s) q = within_branch (Allowed a) (allowed_open a) m e _ _ (stays (inside a) s q.2) (within_end (Allowed a) _ tt)
    stays a (IfElse e s t) q = within_branch (Allowed a) (allowed_open a) m e _ _ (stays (inside a) s q.2) (stays (inside a) t q.3)
    stays a (For i t u s) q = within_for (Allowed a) (allowed_open a) m (Allowed (loop_body a)) i _ t u _ tt (stays (loop_body a) s q.4) (leaves_loop a)
    stays a (While e s) q = within_while (Allowed a) (allowed_open a) m (Allowed (loop_body a)) _ e _ tt (stays (loop_body a) s q.2) (leaves_loop a)
    stays a (Do s e) q = within_do (Allowed a) (allowed_open a) m (Allowed (loop_body a)) _ e _ tt (stays (loop_body a) s q.1) (leaves_loop a)
    stays a (Switch e cs) q =
        within_eval (Allowed a) (allowed_open a) m e _ (λ v. within_breakable (Allowed a) (Allowed (switch_case a)) _
        (within_cases (Allowed (switch_case a)) (allowed_open (switch_case a)) m v (let_names_cases cs) _ tt (stays_cases (switch_case a) cs q.2)) (leaves_switch a))
    stays a (Label l s) q = within_label (Allowed a) (Allowed (labelled l a)) l _ (stays (labelled l a) s q.2) (leaves_label a l)
    stays a (BreakTo l) q = within_end (Allowed a) _ q.1
    stays a (ContinueTo l) q = within_end (Allowed a) _ q.1
    stays a (Return e) q = within_return (Allowed a) (allowed_open a) m e (λ v. tt)
    stays a (TryCatch b x c) q =
        within_try (Allowed a) (allowed_open a) m _ x _ (within_scoped (Allowed a) (allowed_open a) m (let_names b) _ (stays_list (inside a) b q.1 refl))
        (within_scoped (Allowed a) (allowed_open a) m (let_names c) _ (stays_list (inside a) c q.2 refl))
    stays a (TryFinally b f) q =
        within_both (Allowed a) _ _ (within_scoped (Allowed a) (allowed_open a) m (let_names b) _ (stays_list (inside a) b q.1 refl))
        (within_scoped (Allowed a) (allowed_open a) m (let_names f) _ (stays_list (inside a) f q.2 refl))
    stays a (TryBoth b x c f) q =
        within_both (Allowed a) _ _
        (within_try (Allowed a) (allowed_open a) m _ x _ (within_scoped (Allowed a) (allowed_open a) m (let_names b) _ (stays_list (inside a) b q.1 refl))
        (within_scoped (Allowed a) (allowed_open a) m (let_names c) _ (stays_list (inside a) c q.2 refl)))
        (within_scoped (Allowed a) (allowed_open a) m (let_names f) _ (stays_list (inside a) f q.3 refl))

    pub stays_list : (a : Around) (ss : Statements) → KeepsList count a ss → a.label_set ≡ [] → Within (Allowed a) (run_list m ss)
    stays_list a none q r = within_end (Allowed a) _ tt
    stays_list a (some s ss) q r =
        within_list (Allowed a) (allowed_open a) m _ _ (let P : List ℕ → Type 0 = λ ls. Within (Allowed a) (run m s ls) in subst P r (stays a s q.0)) (stays_list a ss q.1 r)
    stays_list a (Let d ds ss) q r = within_list (Allowed a) (allowed_open a) m _ _ (within_declare (Allowed a) (allowed_open a) m by_let (d ∷ ds) tt) (stays_list a ss q.2 r)

    pub stays_cases : (a : Around) (cs : Cases) → KeepsCases count a cs → AllWithin (Allowed a) (allowed_open a) m (run_cases m cs)
    stays_cases a no_case q = tt
    stays_cases a (case t ss cs) q = (stays_list (listed a) ss q.2 refl, stays_cases a cs q.3)

allowed_nowhere : (e : Ending) → Allowed nowhere e → EndsScript e
allowed_nowhere normal p = tt
allowed_nowhere break p = let y : ◌≡◌ {A = ℕ} 0 1 = cc in omega arith
allowed_nowhere continue p = let y : ◌≡◌ {A = ℕ} 0 1 = cc in omega arith
allowed_nowhere gone p = tt
allowed_nowhere spent p = tt
allowed_nowhere (break_to l) p = let y : ◌≡◌ {A = ℕ} 0 1 = cc in omega arith
allowed_nowhere (continue_to l) p = let y : ◌≡◌ {A = ℕ} 0 1 = cc in omega arith
allowed_nowhere (return v) p = tt
allowed_nowhere (throw v) p = tt

pub accepted_ends : AcceptedEnds
unfolding run_body
accepted_ends m count ss q k w =
    allowed_nowhere _ (within_scoped (Allowed nowhere) (allowed_open nowhere) m (let_names ss) _ (stays_list m count nowhere ss q refl) k w).0
