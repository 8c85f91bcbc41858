-- Folds, steps, passes and settling keep the hoisted names, but for granted ones.
use Rattle.std.proofs.Common.{◌≡◌, ℕ, Bool, true, false, cond, not, List, [], ◌∷◌, ◌++◌, Some, None, Option, sym, refl, ap, ◌∙◌}
use Rattle.host.specs.Model.{Model}
use Rattle.host.specs.Sequence.{parts_of, truth_of, effects_of}
use Rattle.words.specs.Tree.{Expression, Start, no_start, start_expression, start_var, start_let}
use Rattle.words.specs.Tree.{Statement, Empty, Break, Continue, Block, Expr, Throw, Var, If, IfElse, For, While, Do, Switch, Label, BreakTo, ContinueTo, Return, TryCatch, TryFinally, TryBoth}
use Rattle.words.specs.Tree.{Statements, none, some, Let, Cases}
use Rattle.meaning.specs.FoldLaws.{NamesLeft, FoldKeepsNames, StepKeepsNames, PassKeepsNames, SettleKeepsNames}
use Rattle.meaning.specs.Fold.Folded.{folded, unchanged, changed, if_so}
use Rattle.meaning.specs.Fold.KeepVar.{keep_start, keep_var, keep_list, keep_cases, stub_var, stub_or_empty, stub_list}
use Rattle.meaning.specs.Fold.IsTerminated.{is_bare_var}
use Rattle.meaning.specs.Fold.Block.{Parent, block_parent, empties, stays_inside, try_optimize_block}
use Rattle.meaning.specs.Fold.If.{if_statement, is_empty, or_empty, keep_optional, is_present, stub_branch, stub_alternate, not_granted, fold_true, fold_false, fold_test, fold_alternate, try_fold_if}
use Rattle.meaning.specs.Fold.For.{drop_start, drop_update, never_entered, fold_for_truth, fold_for_test, try_fold_for}
use Rattle.meaning.specs.Fold.Labeled.{is_idle, try_fold_labeled}
use Rattle.meaning.specs.Fold.Try.{is_cleared, fold_catch, finish_catch, finish_both, try_fold_finally}
use Rattle.meaning.specs.Pass.{fold, pass_body, rests, again}
use Rattle.meaning.proofs.Evaluations.{append_nil}
use Rattle.meaning.proofs.Names.{left_same, left_eq, left_chain, left_append, left_granted, bound_append, keep_stub_var, keep_stub_or_empty, keep_stub_list}
use Rattle.meaning.proofs.Closed.{Closed, pass_list_law, step_list_law}
use Rattle.meaning.proofs.Fold.SwitchNames.{switch_names}

keep_if : (e : Expression) (s : Statement) (t : Option Statement) → keep_var (if_statement e s t) ≡ keep_var s ++ keep_optional t
unfolding keep_var
keep_if e s None = sym (append_nil (keep_var s))
keep_if e s (Some t) = refl

keep_or_empty : (t : Option Statement) → keep_var (or_empty t) ≡ keep_optional t
unfolding keep_var
keep_or_empty None = refl
keep_or_empty (Some t) = refl

block_names : (p : Parent) (ss : Statements) → keep_var (try_optimize_block p ss).result ≡ keep_list ss
unfolding keep_var
block_names p none = go (empties p)
  where
    go : (b : Bool) → keep_var (cond b (changed Empty) (unchanged (Block none))).result ≡ []
    go true = refl
    go false = refl
block_names p (some s none) = go (stays_inside p s)
  where
    go : (b : Bool) → keep_var (cond b (unchanged (Block (some s none))) (changed s)).result ≡ keep_var s ++ []
    go true = refl
    go false = sym (append_nil (keep_var s))
block_names p (some s (some t ss)) = refl
block_names p (some s (Let d ds ss)) = refl
block_names p (Let d ds ss) = refl

labeled_names : (l : ℕ) (s : Statement) → keep_var (try_fold_labeled [] l s).result ≡ keep_var s
unfolding keep_var
labeled_names l s = go (is_idle l s)
  where
    go : (b : Bool) → keep_var (cond b (changed (stub_or_empty (keep_var s))) (unchanged (Label l s))).result ≡ keep_var s
    go true = keep_stub_or_empty (keep_var s)
    go false = refl

catch_names : (b c : Statements) → keep_list (fold_catch b c).result ≡ keep_list c
catch_names none c = go (is_cleared c)
  where
    go : (b : Bool) → keep_list (cond b (unchanged c) (changed (stub_list (keep_list c)))).result ≡ keep_list c
    go true = refl
    go false = keep_stub_list (keep_list c)
catch_names (some s b) c = refl
catch_names (Let d ds b) c = refl

finish_catch_names : (b : Statements) (x : Option ℕ) (c : Statements) → keep_var (finish_catch b x c).result ≡ keep_list b ++ keep_list c
unfolding keep_var
finish_catch_names none x none = refl
finish_catch_names none x (some t c) = refl
finish_catch_names none x (Let d ds c) = refl
finish_catch_names (some s b) x c = refl
finish_catch_names (Let d ds b) x c = refl

finish_both_names : (b : Statements) (x : Option ℕ) (c f : Statements) → keep_var (finish_both b x c f).result ≡ keep_list b ++ (keep_list c ++ keep_list f)
unfolding keep_var
finish_both_names b x c none = finish_catch_names b x c ∙ ap (λ y. keep_list b ++ y) (sym (append_nil (keep_list c)))
finish_both_names none x none (some t f) = refl
finish_both_names none x (some s c) (some t f) = refl
finish_both_names none x (Let d ds c) (some t f) = refl
finish_both_names (some s b) x c (some t f) = refl
finish_both_names (Let d ds b) x c (some t f) = refl
finish_both_names none x none (Let e es f) = refl
finish_both_names none x (some s c) (Let e es f) = refl
finish_both_names none x (Let d ds c) (Let e es f) = refl
finish_both_names (some s b) x c (Let e es f) = refl
finish_both_names (Let d ds b) x c (Let e es f) = refl

finally_names : (b f : Statements) → keep_var (try_fold_finally b f).result ≡ keep_list b ++ keep_list f
unfolding keep_var
finally_names none f = refl
finally_names (some s b) f = refl
finally_names (Let d ds b) f = refl

module _ (m : Model) where
  never_names : (i : Start) (t : Expression) (u : Option Expression) (s : Statement) → keep_var (never_entered m i t u s).result ≡ keep_start i ++ keep_var s
  unfolding keep_var
  never_names no_start t u s = keep_stub_or_empty (keep_var s)
  never_names (start_expression e) t u s = refl
  never_names (start_var d ds) t u s = bound_append (d ∷ ds) (keep_var s)
  never_names (start_let d ds) t u s = keep_stub_list (keep_var s)

  for_truth_names : (b : Option Bool) (i : Start) (t : Expression) (u : Option Expression) (s : Statement) → keep_var (fold_for_truth m b i t u s).result ≡ keep_start i ++ keep_var s
  unfolding keep_var
  for_truth_names None i t u s = refl
  for_truth_names (Some true) i t u s = refl
  for_truth_names (Some false) i t u s = never_names i t u s

  for_test_names : (i : Start) (t u : Option Expression) (s : Statement) → keep_var (fold_for_test m i t u s).result ≡ keep_start i ++ keep_var s
  unfolding keep_var
  for_test_names i None u s = refl
  for_test_names i (Some t) u s = go (effects_of m (parts_of t))
    where
      go : (b : Bool) → keep_var (cond b (unchanged (For i (Some t) u s)) (fold_for_truth m (truth_of m (parts_of t)) i t u s)).result ≡ keep_start i ++ keep_var s
      go true = refl
      go false = for_truth_names (truth_of m (parts_of t)) i t u s

  start_names : (i : Start) → keep_start (drop_start m i).result ≡ keep_start i
  start_names no_start = refl
  start_names (start_expression e) = go (effects_of m (parts_of e))
    where
      go : (b : Bool) → keep_start (cond b (unchanged (start_expression e)) (changed no_start)).result ≡ []
      go true = refl
      go false = refl
  start_names (start_var d ds) = refl
  start_names (start_let d ds) = refl

  for_names : (i : Start) (t u : Option Expression) (s : Statement) → keep_var (try_fold_for m i t u s).result ≡ keep_start i ++ keep_var s
  for_names i t u s = for_test_names (drop_start m i).result t (drop_update m u).result s ∙ ap (λ x. x ++ keep_var s) (start_names i)

  -- a dead branch keeps the names that have to stay
  stub_names : (s : Statement) (x : ℕ) (xs : List ℕ) → not_granted m (keep_var s) ≡ x ∷ xs → NamesLeft m (keep_var s) (keep_var (stub_branch s x xs).result)
  stub_names s x xs q = go (is_bare_var s)
    where
      go : (b : Bool) → NamesLeft m (keep_var s) (keep_var (cond b (unchanged s) (changed (stub_var x xs))).result)
      go true = left_same m (keep_var s)
      go false = left_chain m _ _ _ (left_granted m (keep_var s)) (left_eq m _ _ (keep_stub_var x xs ∙ sym q))

  alternate_stub_names : (t : Option Statement) (x : ℕ) (xs : List ℕ) → not_granted m (keep_optional t) ≡ x ∷ xs → NamesLeft m (keep_optional t) (keep_optional (stub_alternate t x xs).result)
  alternate_stub_names None x xs q = left_same m []
  alternate_stub_names (Some t) x xs q = stub_names t x xs q

  dropped_names : (xs : List ℕ) → not_granted m xs ≡ [] → NamesLeft m xs []
  dropped_names xs q = left_chain m _ _ _ (left_granted m xs) (left_eq m _ _ (sym q))

  true_names : (ns : List ℕ) (e : Expression) (s : Statement) (t : Option Statement) → not_granted m (keep_optional t) ≡ ns → NamesLeft m (keep_var s ++ keep_optional t) (keep_var (fold_true m ns e s t).result)
  unfolding keep_var
  true_names [] e s t q = left_chain m _ _ _ (left_append m _ _ _ _ (left_same m (keep_var s)) (dropped_names (keep_optional t) q)) (left_eq m _ _ (go (effects_of m (parts_of e)) ∙ sym (append_nil (keep_var s))))
    where
      go : (b : Bool) → keep_var (cond b (folded (If e s) (if_so (is_present t))) (changed s)).result ≡ keep_var s
      go true = refl
      go false = refl
  true_names (x ∷ xs) e s t q = left_chain m _ _ _ (left_append m _ _ _ _ (left_same m (keep_var s)) (alternate_stub_names t x xs q)) (left_eq m _ _ (keep_if _ s (stub_alternate t x xs).result))

  false_names : (ns : List ℕ) (e : Expression) (s : Statement) (t : Option Statement) → not_granted m (keep_var s) ≡ ns → NamesLeft m (keep_var s ++ keep_optional t) (keep_var (fold_false m ns e s t).result)
  unfolding keep_var
  false_names [] e s t q = left_chain m _ _ _ (left_append m _ _ _ _ (dropped_names (keep_var s) q) (left_same m (keep_optional t))) (left_eq m _ _ (go (effects_of m (parts_of e))))
    where
      go : (b : Bool) → keep_var (cond b (folded (if_statement e Empty t) (if_so (not (is_empty s)))) (changed (or_empty t))).result ≡ keep_optional t
      go true = keep_if e Empty t
      go false = keep_or_empty t
  false_names (x ∷ xs) e s t q = left_chain m _ _ _ (left_append m _ _ _ _ (stub_names s x xs q) (left_same m (keep_optional t))) (left_eq m _ _ (keep_if _ (stub_branch s x xs).result t))

  parts_names : (b : Option Bool) (e : Expression) (s : Statement) (t : Option Statement) → NamesLeft m (keep_var s ++ keep_optional t) (keep_var (fold_test m b e s t).result)
  parts_names None e s t = left_eq m _ _ (keep_if e s t)
  parts_names (Some true) e s t = true_names (not_granted m (keep_optional t)) e s t refl
  parts_names (Some false) e s t = false_names (not_granted m (keep_var s)) e s t refl

  if_names : (e : Expression) (s : Statement) → NamesLeft m (keep_var s) (keep_var (try_fold_if m e s).result)
  if_names e s = left_chain m _ _ _ (left_eq m _ _ (append_nil (keep_var s))) (parts_names (truth_of m (parts_of e)) e s None)

  alternate_names : (s : Statement) → NamesLeft m (keep_var s) (keep_optional (fold_alternate m s).result)
  unfolding fold_alternate keep_var
  alternate_names Empty = left_same m _
  alternate_names Break = left_same m _
  alternate_names Continue = left_same m _
  alternate_names (Block none) = left_same m []
  alternate_names (Block (some s ss)) = left_same m _
  alternate_names (Block (Let d ds ss)) = left_same m _
  alternate_names (Expr e) = left_same m _
  alternate_names (Throw e) = left_same m _
  alternate_names (Var d ds) = left_same m _
  alternate_names (If e s) = if_names e s
  alternate_names (IfElse e s t) = left_chain m _ _ _ (left_append m _ _ _ _ (left_same m (keep_var s)) (alternate_names t)) (parts_names (truth_of m (parts_of e)) e s (fold_alternate m t).result)
  alternate_names (For i t u s) = left_same m _
  alternate_names (While e s) = left_same m _
  alternate_names (Do s e) = left_same m _
  alternate_names (Switch e cs) = left_same m _
  alternate_names (Label l s) = left_same m _
  alternate_names (BreakTo l) = left_same m _
  alternate_names (ContinueTo l) = left_same m _
  alternate_names (Return e) = left_same m _
  alternate_names (TryCatch b x c) = left_same m _
  alternate_names (TryFinally b f) = left_same m _
  alternate_names (TryBoth b x c f) = left_same m _

  fold_names : (p : Parent) (s : Statement) → NamesLeft m (keep_var s) (keep_var (fold m [] p s).result)
  unfolding fold keep_var
  fold_names p Empty = left_same m _
  fold_names p Break = left_same m _
  fold_names p Continue = left_same m _
  fold_names p (Block ss) = left_eq m _ _ (block_names p ss)
  fold_names p (Expr e) = left_same m _
  fold_names p (Throw e) = left_same m _
  fold_names p (Var d ds) = left_same m _
  fold_names p (If e s) = if_names e s
  fold_names p (IfElse e s t) = left_chain m _ _ _ (left_append m _ _ _ _ (left_same m (keep_var s)) (alternate_names t)) (parts_names (truth_of m (parts_of e)) e s (fold_alternate m t).result)
  fold_names p (For i t u s) = left_eq m _ _ (for_names i t u s)
  fold_names p (While e s) = left_same m _
  fold_names p (Do s e) = left_same m _
  fold_names p (Switch e cs) = switch_names m e cs
  fold_names p (Label l s) = left_eq m _ _ (labeled_names l s)
  fold_names p (BreakTo l) = left_same m _
  fold_names p (ContinueTo l) = left_same m _
  fold_names p (Return e) = left_same m _
  fold_names p (TryCatch b x c) = left_eq m _ _ (finish_catch_names b x (fold_catch b c).result ∙ ap (λ y. keep_list b ++ y) (catch_names b c))
  fold_names p (TryFinally b f) = left_eq m _ _ (finally_names b f)
  fold_names p (TryBoth b x c f) = left_eq m _ _ (finish_both_names b x (fold_catch b c).result f ∙ ap (λ y. keep_list b ++ (y ++ keep_list f)) (catch_names b c))

  abbrev R : Statement → Statement → ℕ → Type 0
  R s t n = NamesLeft m (keep_var s) (keep_var t)

  abbrev L : Statements → Statements → ℕ → Type 0
  L ss ts n = NamesLeft m (keep_list ss) (keep_list ts)

  abbrev C : Cases → Cases → ℕ → Type 0
  C cs ds n = NamesLeft m (keep_cases cs) (keep_cases ds)

  closed : Closed R L C
  unfolding keep_var
  closed = record {
    same = λ s. left_same m (keep_var s);
    chain = λ s t u n k p q. left_chain m _ _ _ p q;
    block = λ ss ts n p. p;
    if_then = λ e s t n p. p;
    if_else = λ e s t u v n k p q. left_append m _ _ _ _ p q;
    for = λ i t u s v n p. left_append m _ _ _ _ (left_same m (keep_start i)) p;
    while = λ e s t n p. p;
    do_while = λ e s t n p. p;
    switch = λ e cs ds n p. p;
    label = λ l s t n p. p;
    try_catch = λ b c x d e n k p q. left_append m _ _ _ _ p q;
    try_finally = λ b c f g n k p q. left_append m _ _ _ _ p q;
    try_both = λ b c x d e f g n k j p q r. left_append m _ _ _ _ p (left_append m _ _ _ _ q r);
    empty_list = left_same m [];
    more = λ s t ss ts n k p q. left_append m _ _ _ _ p q;
    more_let = λ d ds ss ts n p. p;
    empty_cases = left_same m [];
    more_case = λ t ss ts cs ds n k p q. left_append m _ _ _ _ p q;
  }

pub fold_keeps_names : FoldKeepsNames
fold_keeps_names m p s = fold_names m p s

pub step_keeps_names : StepKeepsNames
step_keeps_names m n ss = step_list_law m [] (R m) (L m) (C m) (closed m) (fold_names m) n block_parent ss

pub pass_keeps_names : PassKeepsNames
pass_keeps_names m ss = pass_list_law m [] (R m) (L m) (C m) (closed m) (fold_names m) block_parent ss

pub settle_keeps_names : SettleKeepsNames
settle_keeps_names m ss ts n (rests us e) = left_same m (keep_list us)
settle_keeps_names m ss ts n (again us vs l k e r) = left_chain m _ _ _ (pass_keeps_names m us) (settle_keeps_names m (pass_body m [] us).result vs l r)
