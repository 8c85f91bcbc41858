-- Folds, steps, passes and settling keep the rules of a script, whatever labels are to be dropped.
use Rattle.std.proofs.Common.{ℕ, ◌+◌, ◌≤◌, Bool, true, false, cond, List, Some, None, Option}
use Rattle.host.specs.Model.{Model}
use Rattle.words.specs.Tree.{Expression}
use Rattle.words.specs.Tree.{Statement, Empty, Break, Continue, Block, Expr, Throw, Var, If, IfElse, For, While, Do, Switch, Label, BreakTo, ContinueTo, Return, TryCatch, TryFinally, TryBoth}
use Rattle.words.specs.Tree.{Statements, Cases, case}
use Rattle.checker.specs.Check.{Around}
use Rattle.slices.specs.Among.{among}
use Rattle.checker.specs.Rules.{Keeps, KeepsList, KeepsCases, inside, loop_body, switch_case, labelled, listed, OneDefault, NoDefault}
use Rattle.checker.specs.Check.{nowhere}
use Rattle.meaning.specs.Fold.Folded.{unchanged, changed}
use Rattle.meaning.specs.Fold.KeepVar.{keep_var, stub_or_empty}
use Rattle.meaning.specs.Fold.Block.{Parent, block_parent}
use Rattle.meaning.specs.Fold.Labeled.{is_idle, try_fold_labeled}
use Rattle.meaning.specs.Pass.{fold, pass_body, rests, again}
use Rattle.meaning.specs.FoldLaws.{FoldKeepsRules, StepKeepsRules, PassKeepsRules, SettleKeepsRules}
use Rattle.meaning.proofs.Closed.{Closed, pass_list_law, step_list_law}
use Rattle.meaning.proofs.Fold.Block.{block_accepted}
use Rattle.meaning.proofs.Fold.If.{if_accepted, if_else_accepted}
use Rattle.meaning.proofs.Fold.For.{for_accepted}
use Rattle.meaning.proofs.Fold.Labeled.{labeled_accepted}
use Rattle.meaning.proofs.Fold.SwitchAccepted.{switch_accepted}
use Rattle.meaning.proofs.Fold.Try.{try_catch_accepted, try_finally_accepted, try_both_accepted}

module _ (m : Model) (enough : 2 ≤ m.count) where
  abbrev R : Statement → Statement → ℕ → Type 0
  R s t n = (a : Around) → Keeps m.count a s → Keeps m.count a t

  abbrev L : Statements → Statements → ℕ → Type 0
  L ss ts n = (a : Around) → KeepsList m.count a ss → KeepsList m.count a ts

  abbrev C : Cases → Cases → ℕ → Type 0
  C cs ds n = (NoDefault cs → NoDefault ds) × (OneDefault cs → OneDefault ds) × ((a : Around) → KeepsCases m.count a cs → KeepsCases m.count a ds)

  -- a Label that is to be dropped becomes Empty
  labeled : (dropped : List ℕ) (l : ℕ) (s : Statement) → R (Label l s) (try_fold_labeled dropped l s).result 0
  labeled dropped l s a q = go (among l dropped)
    where
      go : (b : Bool) → Keeps m.count a (cond b (changed Empty) (cond (is_idle l s) (changed (stub_or_empty (keep_var s))) (unchanged (Label l s)))).result
      go true = q.0
      go false = labeled_accepted m.count a l s q

  fold_rules : (dropped : List ℕ) (p : Parent) (s : Statement) → R s (fold m dropped p s).result (fold m dropped p s).changes
  unfolding fold
  fold_rules dropped p Empty a q = q
  fold_rules dropped p Break a q = q
  fold_rules dropped p Continue a q = q
  fold_rules dropped p (Block ss) a q = block_accepted m.count a p ss q
  fold_rules dropped p (Expr e) a q = q
  fold_rules dropped p (Throw e) a q = q
  fold_rules dropped p (Var d ds) a q = q
  fold_rules dropped p (If e s) a q = if_accepted m.count enough m a e s q
  fold_rules dropped p (IfElse e s t) a q = if_else_accepted m.count enough m a e s t q
  fold_rules dropped p (For i t u s) a q = for_accepted m m.count a i t u s q
  fold_rules dropped p (While e s) a q = q
  fold_rules dropped p (Do s e) a q = q
  fold_rules dropped p (Switch e cs) a q = switch_accepted m.count a m e cs q
  fold_rules dropped p (Label l s) a q = labeled dropped l s a q
  fold_rules dropped p (BreakTo l) a q = q
  fold_rules dropped p (ContinueTo l) a q = q
  fold_rules dropped p (Return e) a q = q
  fold_rules dropped p (TryCatch b x c) a q = try_catch_accepted m.count a b x c q
  fold_rules dropped p (TryFinally b f) a q = try_finally_accepted m.count a b f q
  fold_rules dropped p (TryBoth b x c f) a q = try_both_accepted m.count a b x c f q

  more_case_rules : (t : Option Expression) (ss ts : Statements) (cs ds : Cases) (n k : ℕ) → L ss ts n → C cs ds k → C (case t ss cs) (case t ts ds) (n + k)
  more_case_rules None ss ts cs ds n k p r = ((λ q. q), r.0, λ a q. (q.0, q.1, p (listed a) q.2, r.2 a q.3))
  more_case_rules (Some t) ss ts cs ds n k p r = (r.0, r.1, λ a q. (q.0, q.1, p (listed a) q.2, r.2 a q.3))

  closed : Closed R L C
  closed = record {
    same = λ s a q. q;
    chain = λ s t u n k p q a r. q a (p a r);
    block = λ ss ts n p a q. (q.0, p (inside a) q.1);
    if_then = λ e s t n p a q. (q.0, q.1, p (inside a) q.2);
    if_else = λ e s t u v n k p r a q. (q.0, q.1, p (inside a) q.2, r (inside a) q.3);
    for = λ i t u s v n p a q. (q.0, q.1, q.2, q.3, p (loop_body a) q.4);
    while = λ e s t n p a q. (q.0, q.1, p (loop_body a) q.2);
    do_while = λ e s t n p a q. (q.0, p (loop_body a) q.1, q.2);
    switch = λ e cs ds n p a q. (q.0, q.1, p.2 (switch_case a) q.2, p.1 q.3);
    label = λ l s t n p a q. (q.0, q.1, p (labelled l a) q.2);
    try_catch = λ b c x d e n k p r a q. (q.0, p (inside a) q.1, r (inside a) q.2);
    try_finally = λ b c f g n k p r a q. (q.0, p (inside a) q.1, r (inside a) q.2);
    try_both = λ b c x d e f g n k j p r s a q. (q.0, p (inside a) q.1, r (inside a) q.2, s (inside a) q.3);
    empty_list = λ a q. tt;
    more = λ s t ss ts n k p r a q. (p a q.0, r a q.1);
    more_let = λ d ds ss ts n p a q. (q.0, q.1, p a q.2);
    empty_cases = ((λ q. q), (λ q. q), λ a q. tt);
    more_case = more_case_rules;
  }

pub fold_keeps_rules : FoldKeepsRules
fold_keeps_rules m enough dropped p s a q = fold_rules m enough dropped p s a q

pub step_keeps_rules : StepKeepsRules
step_keeps_rules m enough dropped n ss = step_list_law m dropped (R m enough) (L m enough) (C m enough) (closed m enough) (fold_rules m enough dropped) n block_parent ss nowhere

pub pass_keeps_rules : PassKeepsRules
pass_keeps_rules m enough dropped ss = pass_list_law m dropped (R m enough) (L m enough) (C m enough) (closed m enough) (fold_rules m enough dropped) block_parent ss nowhere

pub settle_keeps_rules : SettleKeepsRules
settle_keeps_rules m enough dropped ss ts n (rests us e) q = q
settle_keeps_rules m enough dropped ss ts n (again us vs l k e r) q = settle_keeps_rules m enough dropped (pass_body m dropped us).result vs l r (pass_keeps_rules m enough dropped us q)
