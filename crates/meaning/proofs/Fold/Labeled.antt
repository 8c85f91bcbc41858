-- The fold of a Label, with none to drop: what it makes keeps the rules and runs as before.
use Rattle.std.proofs.Common.{◌≡◌, ℕ, Bool, true, false, cond, ◌||◌, eqb, List, [], ◌∷◌, ◌++◌, sym, refl, ap, ◌∙◌, arith, eqb→eq}
use mathlib.Core.Path.{fun_ext}
use Rattle.host.specs.Model.{Model, Lawful}
use Rattle.meaning.specs.Completion.{Ending, normal, break_to, Evaluation, is_normal, end, ◌thereafter◌, if_normal, ◌then◌, with_label, unless_stopped}
use Rattle.meaning.specs.Run.{let_names, leaving, scope, scoped, run, run_list}
use Rattle.words.specs.Tree.{Statement, Empty, Break, Continue, Block, Expr, Throw, Var, If, IfElse, For, While, Do, Switch, Label, BreakTo, ContinueTo, Return, TryCatch, TryFinally, TryBoth}
use Rattle.words.specs.Tree.{Statements, none, some, Let}
use Rattle.checker.specs.Check.{Around}
use Rattle.checker.specs.Rules.{Keeps}
use Rattle.meaning.specs.Fold.Folded.{unchanged, changed}
use Rattle.meaning.specs.Fold.KeepVar.{keep_var, stub_or_empty}
use Rattle.meaning.specs.Fold.If.{is_empty}
use Rattle.meaning.specs.Fold.Labeled.{is_break_to, begins_with_break_to, breaks_at_once, is_idle, try_fold_labeled}
use Rattle.meaning.proofs.Sequencing.{run_stub_or_empty}
use Rattle.meaning.proofs.Keeps.{keeps_stub_or_empty}

pub labeled_accepted : (count : ℕ) (a : Around) (l : ℕ) (s : Statement) → Keeps count a (Label l s) → Keeps count a (try_fold_labeled [] l s).result
labeled_accepted count a l s q = go (is_idle l s)
  where
    go : (b : Bool) → Keeps count a (cond b (changed (stub_or_empty (keep_var s))) (unchanged (Label l s))).result
    go true = keeps_stub_or_empty count a (keep_var s) q.0
    go false = q

module _ (m : Model) (law : Lawful m) where
  jumps_out : (t l : ℕ) → eqb t l ≡ true → with_label l (end (break_to t)) ≡ end normal
  unfolding with_label ◌thereafter◌ end
  jumps_out t l q =
      let e : t ≡ l = eqb→eq t l (rw q tt) in
      ap (λ x. with_label l (end (break_to x))) e ∙ (λ i k w. end (cond (own i) normal (break_to l)) k w)
    where
      own : eqb l l ≡ true
      own = ap (λ x. eqb x l) (sym (eqb→eq t l (rw q tt))) ∙ q

  jump_run : (l : ℕ) (s : Statement) (ls : List ℕ) → is_break_to l s ≡ true → (t : ℕ) × (run m s ls ≡ end (break_to t)) × (eqb t l ≡ true)
  unfolding is_break_to run
  jump_run l Empty ls q = absurd (let y : ◌≡◌ {A = ℕ} 0 1 = cc in omega arith)
  jump_run l Break ls q = absurd (let y : ◌≡◌ {A = ℕ} 0 1 = cc in omega arith)
  jump_run l Continue ls q = absurd (let y : ◌≡◌ {A = ℕ} 0 1 = cc in omega arith)
  jump_run l (Block ss) ls q = absurd (let y : ◌≡◌ {A = ℕ} 0 1 = cc in omega arith)
  jump_run l (Expr e) ls q = absurd (let y : ◌≡◌ {A = ℕ} 0 1 = cc in omega arith)
  jump_run l (Throw e) ls q = absurd (let y : ◌≡◌ {A = ℕ} 0 1 = cc in omega arith)
  jump_run l (Var d ds) ls q = absurd (let y : ◌≡◌ {A = ℕ} 0 1 = cc in omega arith)
  jump_run l (If e s) ls q = absurd (let y : ◌≡◌ {A = ℕ} 0 1 = cc in omega arith)
  jump_run l (IfElse e s t) ls q = absurd (let y : ◌≡◌ {A = ℕ} 0 1 = cc in omega arith)
  jump_run l (For i t u s) ls q = absurd (let y : ◌≡◌ {A = ℕ} 0 1 = cc in omega arith)
  jump_run l (While e s) ls q = absurd (let y : ◌≡◌ {A = ℕ} 0 1 = cc in omega arith)
  jump_run l (Do s e) ls q = absurd (let y : ◌≡◌ {A = ℕ} 0 1 = cc in omega arith)
  jump_run l (Switch e cs) ls q = absurd (let y : ◌≡◌ {A = ℕ} 0 1 = cc in omega arith)
  jump_run l (Label k s) ls q = absurd (let y : ◌≡◌ {A = ℕ} 0 1 = cc in omega arith)
  jump_run l (BreakTo t) ls q = (t, refl, q)
  jump_run l (ContinueTo t) ls q = absurd (let y : ◌≡◌ {A = ℕ} 0 1 = cc in omega arith)
  jump_run l (Return e) ls q = absurd (let y : ◌≡◌ {A = ℕ} 0 1 = cc in omega arith)
  jump_run l (TryCatch b x c) ls q = absurd (let y : ◌≡◌ {A = ℕ} 0 1 = cc in omega arith)
  jump_run l (TryFinally b f) ls q = absurd (let y : ◌≡◌ {A = ℕ} 0 1 = cc in omega arith)
  jump_run l (TryBoth b x c f) ls q = absurd (let y : ◌≡◌ {A = ℕ} 0 1 = cc in omega arith)

  -- a jump through a scope that was entered just before
  scope_jump : (l : ℕ) (ns : List ℕ) (t : ℕ) → eqb t l ≡ true → with_label l (scoped m ns (end (break_to t))) ≡ end normal
  unfolding with_label scoped scope ◌thereafter◌ end unless_stopped leaving
  scope_jump l [] t q = jumps_out t l q
  scope_jump l (n ∷ ns) t q = fun_ext λ k. fun_ext λ w.
      ap (λ x. with_label l (end (break_to t)) k x) (law.leave_enter (n ∷ ns) w) ∙ ap (λ f. f k w) (jumps_out t l q)

  cut_off : (e : Ending) (g : Evaluation) → is_normal e ≡ false → end e then g ≡ end e
  unfolding ◌then◌ ◌thereafter◌ end if_normal
  cut_off e g q = λ i k w. cond (q i) g (end e) k w

  block_jump : (l : ℕ) (ss : Statements) (ls : List ℕ) → begins_with_break_to l ss ≡ true → with_label l (run m (Block ss) ls) ≡ end normal
  unfolding run
  block_jump l none ls q = absurd (let y : ◌≡◌ {A = ℕ} 0 1 = cc in omega arith)
  block_jump l (some s ss) ls q =
      let r = jump_run l s [] q in
      ap (λ x. with_label l (scoped m (let_names ss) x)) (ap (λ x. x then run_list m ss) r.1 ∙ cut_off (break_to r.0) (run_list m ss) refl)
      ∙ scope_jump l (let_names ss) r.0 r.2
  block_jump l (Let d ds ss) ls q = absurd (let y : ◌≡◌ {A = ℕ} 0 1 = cc in omega arith)

  breaks_run : (l : ℕ) (s : Statement) (ls : List ℕ) → breaks_at_once l s ≡ true → with_label l (run m s ls) ≡ end normal
  unfolding breaks_at_once run
  breaks_run l Empty ls q = cc
  breaks_run l Break ls q = cc
  breaks_run l Continue ls q = cc
  breaks_run l (Block ss) ls q = block_jump l ss ls q
  breaks_run l (Expr e) ls q = cc
  breaks_run l (Throw e) ls q = cc
  breaks_run l (Var d ds) ls q = cc
  breaks_run l (If e s) ls q = cc
  breaks_run l (IfElse e s t) ls q = cc
  breaks_run l (For i t u s) ls q = cc
  breaks_run l (While e s) ls q = cc
  breaks_run l (Do s e) ls q = cc
  breaks_run l (Switch e cs) ls q = cc
  breaks_run l (Label k s) ls q = cc
  breaks_run l (BreakTo t) ls q = jumps_out t l q
  breaks_run l (ContinueTo t) ls q = cc
  breaks_run l (Return e) ls q = cc
  breaks_run l (TryCatch b x c) ls q = cc
  breaks_run l (TryFinally b f) ls q = cc
  breaks_run l (TryBoth b x c f) ls q = cc

  empty_run : (l : ℕ) (s : Statement) (ls : List ℕ) → is_empty s ≡ true → with_label l (run m s ls) ≡ end normal
  unfolding run with_label ◌thereafter◌ end
  empty_run l Empty ls q = refl
  empty_run l Break ls q = cc
  empty_run l Continue ls q = cc
  empty_run l (Block ss) ls q = cc
  empty_run l (Expr e) ls q = cc
  empty_run l (Throw e) ls q = cc
  empty_run l (Var d ds) ls q = cc
  empty_run l (If e s) ls q = cc
  empty_run l (IfElse e s t) ls q = cc
  empty_run l (For i t u s) ls q = cc
  empty_run l (While e s) ls q = cc
  empty_run l (Do s e) ls q = cc
  empty_run l (Switch e cs) ls q = cc
  empty_run l (Label k s) ls q = cc
  empty_run l (BreakTo t) ls q = cc
  empty_run l (ContinueTo t) ls q = cc
  empty_run l (Return e) ls q = cc
  empty_run l (TryCatch b x c) ls q = cc
  empty_run l (TryFinally b f) ls q = cc
  empty_run l (TryBoth b x c f) ls q = cc

  idle_run : (l : ℕ) (s : Statement) (ls : List ℕ) → is_idle l s ≡ true → with_label l (run m s ls) ≡ end normal
  idle_run l s ls q = go (breaks_at_once l s) refl q
    where
      go : (b : Bool) → breaks_at_once l s ≡ b → (b || is_empty s) ≡ true → with_label l (run m s ls) ≡ end normal
      go true p r = breaks_run l s ls p
      go false p r = empty_run l s ls r

  pub labeled_run : (l : ℕ) (s : Statement) (ls : List ℕ) → run m (try_fold_labeled [] l s).result ls ≡ run m (Label l s) ls
  unfolding run
  labeled_run l s ls = go (is_idle l s) refl
    where
      go : (b : Bool) → is_idle l s ≡ b → run m (cond b (changed (stub_or_empty (keep_var s))) (unchanged (Label l s))).result ls ≡ run m (Label l s) ls
      go true q = run_stub_or_empty m (keep_var s) ls ∙ sym (idle_run l s (ls ++ l ∷ []) q)
      go false q = refl
