-- A terminated statement never ends normally.
use Rattle.std.proofs.Common.{◌≡◌, ℕ, Bool, true, false, cond, ◌&&◌, ◌||◌, List, [], ◌∷◌, sym, refl, ◌∙◌, arith}
use Rattle.host.specs.Model.{Model, by_let}
use Rattle.meaning.specs.Completion.{Ending, normal, break, continue, gone, spent, break_to, continue_to, return, throw, Evaluation, is_normal, is_stopped, end, if_normal, ◌then◌, finally}
use Rattle.meaning.specs.Run.{let_names, run, run_list}
use Rattle.words.specs.Tree.{Statement, Empty, Break, Continue, Block, Expr, Throw, Var, If, IfElse, For, While, Do, Switch, Label, BreakTo, ContinueTo, Return, TryCatch, TryFinally, TryBoth}
use Rattle.words.specs.Tree.{Statements, none, some, Let}
use Rattle.meaning.specs.Fold.IsTerminated.{is_terminated, is_terminated_list, all_bare_vars}
use Rattle.meaning.specs.Laws.{TerminatedNeverNormal}
use Rattle.meaning.proofs.Within.{Within, Open, within_end, within_then, within_declare, within_eval, within_branch, within_return, within_try, within_scoped, within_finally, within_after, within_cond}
use Rattle.meaning.proofs.Rounds.{Any, any_open, bounded, bounded_body, bounded_try}

abbrev pub Abrupt : Ending → Type 0
Abrupt e = is_normal e ≡ false

abrupt_open : Open Abrupt
abrupt_open = record { on_throw = λ v. refl; on_gone = refl; on_spent = refl }

stopped_abrupt : (e : Ending) → is_stopped e ≡ true → is_normal e ≡ false
stopped_abrupt normal q = cc
stopped_abrupt break q = refl
stopped_abrupt continue q = refl
stopped_abrupt gone q = refl
stopped_abrupt spent q = refl
stopped_abrupt (break_to l) q = refl
stopped_abrupt (continue_to l) q = refl
stopped_abrupt (return v) q = refl
stopped_abrupt (throw v) q = refl

pub and_left : (a b : Bool) → (a && b) ≡ true → a ≡ true
and_left true b q = refl
and_left false b q = q

pub and_right : (a b : Bool) → (a && b) ≡ true → b ≡ true
and_right true b q = q
and_right false b q = cc

or_true : {A : Type 0} (a b : Bool) → (a || b) ≡ true → (a ≡ true → A) → (b ≡ true → A) → A
or_true true b q f g = f refl
or_true false b q f g = g q

cond_true : {A : Type 0} (c a b : Bool) → cond c a b ≡ true → (a ≡ true → A) → (b ≡ true → A) → A
cond_true true a b q f g = f q
cond_true false a b q f g = g q

contrary : {A : Type 0} (b : Bool) → b ≡ false → b ≡ true → A
contrary b p q = absurd (let z : true ≡ false = sym q ∙ p in let y : ◌≡◌ {A = ℕ} 0 1 = cc in omega arith)

-- by what comes first, or by what comes after
abrupt_first : (f g : Evaluation) → Within Abrupt f → Within Abrupt (f then g)
unfolding ◌then◌ if_normal
abrupt_first f g p = within_after Abrupt Abrupt f _ p (λ e q. within_cond Abrupt (is_normal e) g (end e) (λ r. contrary (is_normal e) q r) (λ r. within_end Abrupt e r))

abrupt_after : (f g : Evaluation) → Within Any f → Within Abrupt g → Within Abrupt (f then g)
abrupt_after f g p q = within_then Abrupt Any f g p (λ e _ n. n) q

-- by the finalizer, or by what comes before it
abrupt_finalizer : (f g : Evaluation) → Within Any f → Within Abrupt g → Within Abrupt (finally f g)
abrupt_finalizer f g p q = within_finally Abrupt Any Abrupt f g p q (λ e _ r. stopped_abrupt e r) (λ d r _. r) (λ e d _ r n. contrary (is_normal d) r n)

abrupt_body : (f g : Evaluation) → Within Abrupt f → Within Any g → Within Abrupt (finally f g)
abrupt_body f g p q = within_finally Abrupt Abrupt Any f g p q (λ e r _. r) (λ d _ n. n) (λ e d r _ _. r)

module _ (m : Model) where
  mutual
    unfolding is_terminated run

    pub abrupt : (s : Statement) (ls : List ℕ) → is_terminated s ≡ true → Within Abrupt (run m s ls)
    abrupt Empty ls q = contrary false refl q
    abrupt Break ls q = within_end Abrupt _ refl
    abrupt Continue ls q = within_end Abrupt _ refl
    abrupt (Block ss) ls q = within_scoped Abrupt abrupt_open m (let_names ss) _ (abrupt_list ss q)
    abrupt (Expr e) ls q = contrary false refl q
    abrupt (Throw e) ls q = within_eval Abrupt abrupt_open m e _ (λ v. within_end Abrupt _ refl)
    abrupt (Var d ds) ls q = contrary false refl q
    abrupt (If e s) ls q = contrary false refl q
    abrupt (IfElse e s t) ls q = within_branch Abrupt abrupt_open m e _ _ (abrupt s [] (and_right (is_terminated t) _ q)) (abrupt t [] (and_left _ (is_terminated s) q))
    abrupt (For i t u s) ls q = contrary false refl q
    abrupt (While e s) ls q = contrary false refl q
    abrupt (Do s e) ls q = contrary false refl q
    abrupt (Switch e cs) ls q = contrary false refl q
    abrupt (Label l s) ls q = contrary false refl q
    abrupt (BreakTo l) ls q = within_end Abrupt _ refl
    abrupt (ContinueTo l) ls q = within_end Abrupt _ refl
    abrupt (Return e) ls q = within_return Abrupt abrupt_open m e (λ v. refl)
    abrupt (TryCatch b x c) ls q =
        within_try Abrupt abrupt_open m _ x _ (within_scoped Abrupt abrupt_open m (let_names b) _ (abrupt_list b (and_left _ (is_terminated_list c) q)))
        (within_scoped Abrupt abrupt_open m (let_names c) _ (abrupt_list c (and_right (is_terminated_list b) _ q)))
    abrupt (TryFinally b f) ls q = or_true (is_terminated_list f) (is_terminated_list b) q
        (λ p. abrupt_finalizer _ _ (bounded_body m b) (within_scoped Abrupt abrupt_open m (let_names f) _ (abrupt_list f p)))
        (λ p. abrupt_body _ _ (within_scoped Abrupt abrupt_open m (let_names b) _ (abrupt_list b p)) (bounded_body m f))
    abrupt (TryBoth b x c f) ls q = or_true (is_terminated_list f) (is_terminated_list b && is_terminated_list c) q
        (λ p. abrupt_finalizer _ _ (bounded_try m b x c) (within_scoped Abrupt abrupt_open m (let_names f) _ (abrupt_list f p)))
        (λ p. abrupt_body _ _
        (within_try Abrupt abrupt_open m _ x _ (within_scoped Abrupt abrupt_open m (let_names b) _ (abrupt_list b (and_left _ (is_terminated_list c) p)))
        (within_scoped Abrupt abrupt_open m (let_names c) _ (abrupt_list c (and_right (is_terminated_list b) _ p))))
        (bounded_body m f))

    pub abrupt_list : (ss : Statements) → is_terminated_list ss ≡ true → Within Abrupt (run_list m ss)
    abrupt_list none q = contrary false refl q
    abrupt_list (some s ss) q = cond_true (all_bare_vars ss) (is_terminated s) (is_terminated_list ss) q
        (λ p. abrupt_first _ _ (abrupt s [] p)) (λ p. abrupt_after _ _ (bounded m s []) (abrupt_list ss p))
    abrupt_list (Let d ds ss) q = abrupt_after _ _ (within_declare Any any_open m by_let (d ∷ ds) tt) (abrupt_list ss q)

pub terminated_never_normal : TerminatedNeverNormal
terminated_never_normal m s ls q k w = (abrupt m s ls q k w).0
