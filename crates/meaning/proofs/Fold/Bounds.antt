-- The folds of Block, For, Label and Try pay for their changes.
use Rattle.std.proofs.Common.{◌≡◌, ℕ, ◌+◌, ◌≤◌, Bool, true, false, cond, List, ◌∷◌, ◌++◌, map, length, Some, None, Option, sym, refl, ap, ◌∙◌, subst, arith}
use Rattle.host.specs.Model.{Model}
use Rattle.host.specs.Sequence.{parts_of, truth_of, effects_of}
use Rattle.words.specs.Tree.{Expression, Name, Start, no_start, start_expression, start_var, start_let}
use Rattle.words.specs.Tree.{Statement, Empty, Block, For, Label, TryCatch, TryFinally, TryBoth}
use Rattle.words.specs.Tree.{Statements, none, some, Let}
use Rattle.scan.specs.Weight.{weight_expression, weight_optional, weight_declarators, weight_catch}
use Rattle.meaning.proofs.Measure.{Scale, measure_start, measure, measure_list, at_least_one, expression_one, stub_cost, cost_least, cost_apart, names_cost, list_cost, names_less, append_weight, length_append}
use Rattle.meaning.proofs.Evaluations.{append_nil}
use Rattle.meaning.specs.Fold.Folded.{Folded, unchanged, changed, plus_changes}
use Rattle.meaning.specs.Fold.KeepVar.{keep_var, keep_list, stub_or_empty, stub_list}
use Rattle.meaning.specs.Fold.IsTerminated.{is_bare_var}
use Rattle.meaning.specs.Fold.Block.{Parent, empties, stays_inside, try_optimize_block}
use Rattle.meaning.specs.Fold.For.{drop_start, drop_update, never_entered, fold_for_truth, fold_for_test, try_fold_for}
use Rattle.slices.specs.Among.{among}
use Rattle.meaning.specs.Fold.Labeled.{is_idle, try_fold_labeled}
use Rattle.meaning.specs.Fold.Try.{clear_catch, fold_catch, finish_catch, keep_finalizer, finish_both, try_fold_catch, try_fold_finally, try_fold_both}
use Rattle.meaning.proofs.Bound.{Bound, bound_same, bound_changed, bound_either, impossible, zero_left, zero_right, stub_list_measure, stub_or_empty_measure}

module _ (z : Scale) where
  pub block_bound : (p : Parent) (ss : Statements) → Bound z (Block ss) (try_optimize_block p ss)
  block_bound p none = bound_either z (empties p) (Block none) _ _ (λ _. bound_changed z (Block none) Empty (omega arith)) (λ _. bound_same z (Block none))
  block_bound p (some s none) = bound_either z (stays_inside p s) (Block (some s none)) _ _ (λ _. bound_same z (Block (some s none))) (λ _. bound_changed z (Block (some s none)) s (omega arith))
  block_bound p (some s (some t ss)) = bound_same z _
  block_bound p (some s (Let d ds ss)) = bound_same z _
  block_bound p (Let d ds ss) = bound_same z _

  pub labeled_bound : (dropped : List ℕ) (l : ℕ) (s : Statement) → Bound z (Label l s) (try_fold_labeled dropped l s)
  labeled_bound dropped l s =
      let p : measure z (stub_or_empty (keep_var s)) ≤ 1 + stub_cost z (length (keep_var s)) = stub_or_empty_measure z (keep_var s) in
      let q : stub_cost z (length (keep_var s)) ≤ measure z s = names_cost z s in
      let one : 1 ≤ measure z s = at_least_one z s in
      bound_either z (among l dropped) (Label l s) _ _ (λ _. bound_changed z (Label l s) Empty (omega arith))
      (λ _. bound_either z (is_idle l s) (Label l s) _ _ (λ _. bound_changed z (Label l s) _ (omega arith)) (λ _. bound_same z (Label l s)))

  -- For
  module _ (m : Model) where
    start_bound : (i : Start) → (measure_start z (drop_start m i).result + z.scaled (drop_start m i).changes ≤ measure_start z i) × ((drop_start m i).changes ≡ 0 → (drop_start m i).result ≡ i)
    start_bound no_start = (let e : z.scaled 0 ≡ 0 = z.at_zero in omega arith, λ q. refl)
    start_bound (start_expression e) = go (effects_of m (parts_of e))
      where
        go : (b : Bool) → (measure_start z (cond b (unchanged (start_expression e)) (changed no_start)).result + z.scaled (cond b (unchanged (start_expression e)) (changed no_start)).changes ≤ weight_expression e)
            × ((cond b (unchanged (start_expression e)) (changed no_start)).changes ≡ 0 → (cond b (unchanged (start_expression e)) (changed no_start)).result ≡ start_expression e)
        go true = (let f : z.scaled 0 ≡ 0 = z.at_zero in omega arith, λ q. refl)
        go false = (let f : z.scaled 1 ≡ z.unit = z.at_one in let u : z.unit ≤ 1 = z.small in let o : 1 ≤ weight_expression e = expression_one z e in omega arith, λ q. impossible q)
    start_bound (start_var d ds) = (let e : z.scaled 0 ≡ 0 = z.at_zero in omega arith, λ q. refl)
    start_bound (start_let d ds) = (let e : z.scaled 0 ≡ 0 = z.at_zero in omega arith, λ q. refl)

    update_bound : (u : Option Expression) → (weight_optional (drop_update m u).result + z.scaled (drop_update m u).changes ≤ weight_optional u) × ((drop_update m u).changes ≡ 0 → (drop_update m u).result ≡ u)
    update_bound None = (let e : z.scaled 0 ≡ 0 = z.at_zero in omega arith, λ q. refl)
    update_bound (Some e) = go (effects_of m (parts_of e))
      where
        go : (b : Bool) → (weight_optional (cond b (unchanged (Some e)) (changed None)).result + z.scaled (cond b (unchanged (Some e)) (changed None)).changes ≤ weight_expression e)
            × ((cond b (unchanged (Some e)) (changed None)).changes ≡ 0 → (cond b (unchanged (Some e)) (changed None)).result ≡ Some e)
        go true = (let f : z.scaled 0 ≡ 0 = z.at_zero in omega arith, λ q. refl)
        go false = (let f : z.scaled 1 ≡ z.unit = z.at_one in let u : z.unit ≤ 1 = z.small in let o : 1 ≤ weight_expression e = expression_one z e in omega arith, λ q. impossible q)

    never_bound : (i : Start) (t : Expression) (u : Option Expression) (s : Statement) → Bound z (For i (Some t) u s) (never_entered m i t u s)
    never_bound no_start t u s =
        let p : measure z (stub_or_empty (keep_var s)) ≤ 1 + stub_cost z (length (keep_var s)) = stub_or_empty_measure z (keep_var s) in
        let q : stub_cost z (length (keep_var s)) ≤ measure z s = names_cost z s in
        let o : 1 ≤ weight_expression t = expression_one z t in
        let v : z.unit ≤ 1 = z.small in
        bound_changed z (For no_start (Some t) u s) _ (omega arith)
    never_bound (start_expression e) t u s = bound_same z _
    never_bound (start_var d ds) t u s =
        let p : weight_declarators ((d ∷ ds) ++ map Name (keep_var s)) ≡ weight_declarators (d ∷ ds) + length (keep_var s) = append_weight (d ∷ ds) (keep_var s) in
        let q : stub_cost z (length (keep_var s)) ≤ measure z s = names_cost z s in
        let r : length (keep_var s) ≤ stub_cost z (length (keep_var s)) = cost_least z (length (keep_var s)) in
        let o : 1 ≤ weight_expression t = expression_one z t in
        bound_changed z (For (start_var d ds) (Some t) u s) _ (omega arith)
    never_bound (start_let d ds) t u s =
        let p : measure_list z (stub_list (keep_var s)) ≡ stub_cost z (length (keep_var s)) = stub_list_measure z (keep_var s) in
        let q : stub_cost z (length (keep_var s)) ≤ measure z s = names_cost z s in
        let o : 1 ≤ weight_expression t = expression_one z t in
        let v : z.unit ≤ 1 = z.small in
        bound_changed z (For (start_let d ds) (Some t) u s) _ (omega arith)

    truth_bound : (b : Option Bool) (i : Start) (t : Expression) (u : Option Expression) (s : Statement) → Bound z (For i (Some t) u s) (fold_for_truth m b i t u s)
    truth_bound None i t u s = bound_same z _
    truth_bound (Some true) i t u s = let o : 1 ≤ weight_expression t = expression_one z t in let v : z.unit ≤ 1 = z.small in bound_changed z (For i (Some t) u s) (For i None u s) (omega arith)
    truth_bound (Some false) i t u s = never_bound i t u s

    for_test_bound : (i : Start) (t u : Option Expression) (s : Statement) → Bound z (For i t u s) (fold_for_test m i t u s)
    for_test_bound i None u s = bound_same z _
    for_test_bound i (Some t) u s = bound_either z (effects_of m (parts_of t)) (For i (Some t) u s) _ _ (λ _. bound_same z _) (λ _. truth_bound (truth_of m (parts_of t)) i t u s)

    pub for_bound : (i : Start) (t u : Option Expression) (s : Statement) → Bound z (For i t u s) (try_fold_for m i t u s)
    for_bound i t u s =
        let a = start_bound i in let b = update_bound u in let c = for_test_bound (drop_start m i).result t (drop_update m u).result s in (
          let a1 : measure_start z (drop_start m i).result + z.scaled (drop_start m i).changes ≤ measure_start z i = a.0 in
              let b1 : weight_optional (drop_update m u).result + z.scaled (drop_update m u).changes ≤ weight_optional u = b.0 in
              let c1 : measure z (fold_for_test m (drop_start m i).result t (drop_update m u).result s).result + z.scaled (fold_for_test m (drop_start m i).result t (drop_update m u).result s).changes
              ≤ measure z (For (drop_start m i).result t (drop_update m u).result s) = c.0 in
              let e : z.scaled ((drop_start m i).changes + (drop_update m u).changes + (fold_for_test m (drop_start m i).result t (drop_update m u).result s).changes)
              ≡ z.scaled ((drop_start m i).changes + (drop_update m u).changes) + z.scaled (fold_for_test m (drop_start m i).result t (drop_update m u).result s).changes = z.adds _ _ in
              let f : z.scaled ((drop_start m i).changes + (drop_update m u).changes) ≡ z.scaled (drop_start m i).changes + z.scaled (drop_update m u).changes = z.adds _ _ in
              omega arith,
          λ q.
              let l : (drop_start m i).changes + (drop_update m u).changes ≡ 0 = zero_left _ _ q in
              c.1 (zero_right ((drop_start m i).changes + (drop_update m u).changes) _ q)
              ∙ (λ j. For (a.1 (zero_left _ _ l) j) t (b.1 (zero_right (drop_start m i).changes _ l) j) s),
        )

  -- Try
  abbrev BoundList : Statements → Folded Statements → Type 0
  BoundList c f = (measure_list z f.result + z.scaled f.changes ≤ measure_list z c) × (f.changes ≡ 0 → f.result ≡ c)

  list_same : (c : Statements) → BoundList c (unchanged c)
  list_same c = (let e : z.scaled 0 ≡ 0 = z.at_zero in omega arith, λ q. refl)

  list_cleared : (c : Statements) → stub_cost z (length (keep_list c)) + z.unit ≤ measure_list z c → BoundList c (changed (stub_list (keep_list c)))
  list_cleared c p = (let e : z.scaled 1 ≡ z.unit = z.at_one in let f : measure_list z (stub_list (keep_list c)) ≡ stub_cost z (length (keep_list c)) = stub_list_measure z (keep_list c) in omega arith, λ q. impossible q)

  more_cost : (s : Statement) (ss : Statements) → 1 ≤ measure_list z ss → stub_cost z (length (keep_list (some s ss))) + z.unit ≤ measure_list z (some s ss)
  unfolding keep_var
  more_cost s ss o = let P : ℕ → Type 0 = λ j. stub_cost z j + z.unit ≤ measure z s + measure_list z ss in
      subst P (sym (length_append (keep_var s) (keep_list ss))) (cost_apart z (length (keep_var s)) (length (keep_list ss)) (measure z s) (measure_list z ss) (names_cost z s) (list_cost z ss) (at_least_one z s) o)

  either_clear : (b : Bool) (c : Statements) → (b ≡ false → stub_cost z (length (keep_list c)) + z.unit ≤ measure_list z c) → BoundList c (cond b (unchanged c) (changed (stub_list (keep_list c))))
  either_clear true c p = list_same c
  either_clear false c p = list_cleared c (p refl)

  clear_bound : (c : Statements) → BoundList c (clear_catch c)
  unfolding keep_var
  clear_bound none = list_same none
  clear_bound (some s none) = either_clear (is_bare_var s) (some s none) (λ q.
      let p : stub_cost z (length (keep_var s)) + z.unit ≤ measure z s = names_less z s q in
      let P : List ℕ → Type 0 = λ xs. stub_cost z (length xs) + z.unit ≤ measure z s + 0 in subst P (sym (append_nil (keep_var s))) (omega arith))
  clear_bound (some s (some t ss)) = list_cleared (some s (some t ss)) (more_cost s (some t ss) (let o : 1 ≤ measure z t = at_least_one z t in omega arith))
  clear_bound (some s (Let d ds ss)) = list_cleared (some s (Let d ds ss)) (more_cost s (Let d ds ss) (omega arith))
  clear_bound (Let d ds ss) = list_cleared (Let d ds ss) (let p : stub_cost z (length (keep_list ss)) ≤ measure_list z ss = list_cost z ss in omega arith)

  catch_bound : (b c : Statements) → BoundList c (fold_catch b c)
  catch_bound none c = clear_bound c
  catch_bound (some s b) c = list_same c
  catch_bound (Let d ds b) c = list_same c

  catch_least : (x : Option ℕ) → 1 ≤ weight_catch x
  catch_least None = omega arith
  catch_least (Some x) = omega arith

  finish_catch_bound : (b : Statements) (x : Option ℕ) (c : Statements) → Bound z (TryCatch b x c) (finish_catch b x c)
  finish_catch_bound none x none = let o : 1 ≤ weight_catch x = catch_least x in bound_changed z (TryCatch none x none) Empty (omega arith)
  finish_catch_bound none x (some t c) = bound_same z _
  finish_catch_bound none x (Let d ds c) = bound_same z _
  finish_catch_bound (some s b) x c = bound_same z _
  finish_catch_bound (Let d ds b) x c = bound_same z _

  keep_finalizer_bound : (b : Statements) (x : Option ℕ) (c f : Statements) → Bound z (TryBoth b x c f) (keep_finalizer b x c f)
  keep_finalizer_bound none x none f = let o : 1 ≤ weight_catch x = catch_least x in let v : z.unit ≤ 1 = z.small in bound_changed z (TryBoth none x none f) (Block f) (omega arith)
  keep_finalizer_bound none x (some t c) f = bound_same z _
  keep_finalizer_bound none x (Let d ds c) f = bound_same z _
  keep_finalizer_bound (some s b) x c f = bound_same z _
  keep_finalizer_bound (Let d ds b) x c f = bound_same z _

  finish_both_bound : (b : Statements) (x : Option ℕ) (c f : Statements) → Bound z (TryBoth b x c f) (finish_both b x c f)
  finish_both_bound b x c none =
      let p = finish_catch_bound b x c in (
        let q : measure z (finish_catch b x c).result + z.scaled (finish_catch b x c).changes ≤ measure z (TryCatch b x c) = p.0 in
            let e : z.scaled (1 + (finish_catch b x c).changes) ≡ z.scaled 1 + z.scaled (finish_catch b x c).changes = z.adds 1 _ in
            let o : z.scaled 1 ≡ z.unit = z.at_one in let v : z.unit ≤ 1 = z.small in omega arith,
        λ q. impossible (zero_left 1 (finish_catch b x c).changes q),
      )
  finish_both_bound b x c (some t f) = keep_finalizer_bound b x c (some t f)
  finish_both_bound b x c (Let d ds f) = keep_finalizer_bound b x c (Let d ds f)

  -- a catch folded first
  after_catch : (s t : Statement) (c : Statements) (f : Folded Statements) (g : Folded Statement) → BoundList c f → Bound z t g → measure z t + measure_list z c ≡ measure z s + measure_list z f.result → (f.result ≡ c → t ≡ s) →
      Bound z s (plus_changes f.changes g)
  after_catch s t c f g p q e k = (
    let p1 : measure_list z f.result + z.scaled f.changes ≤ measure_list z c = p.0 in
        let q1 : measure z g.result + z.scaled g.changes ≤ measure z t = q.0 in
        let a : z.scaled (f.changes + g.changes) ≡ z.scaled f.changes + z.scaled g.changes = z.adds _ _ in omega arith,
    λ r. q.1 (zero_right f.changes _ r) ∙ k (p.1 (zero_left f.changes g.changes r)),
  )

  pub try_catch_bound : (b : Statements) (x : Option ℕ) (c : Statements) → Bound z (TryCatch b x c) (try_fold_catch b x c)
  try_catch_bound b x c = after_catch (TryCatch b x c) (TryCatch b x (fold_catch b c).result) c (fold_catch b c) _ (catch_bound b c) (finish_catch_bound b x (fold_catch b c).result) (omega arith) (λ e. ap (TryCatch b x) e)

  pub try_finally_bound : (b f : Statements) → Bound z (TryFinally b f) (try_fold_finally b f)
  try_finally_bound none f = let v : z.unit ≤ 1 = z.small in bound_changed z (TryFinally none f) (Block f) (omega arith)
  try_finally_bound (some s b) f = bound_same z _
  try_finally_bound (Let d ds b) f = bound_same z _

  pub try_both_bound : (b : Statements) (x : Option ℕ) (c f : Statements) → Bound z (TryBoth b x c f) (try_fold_both b x c f)
  try_both_bound b x c f =
      after_catch (TryBoth b x c f) (TryBoth b x (fold_catch b c).result f) c (fold_catch b c) _ (catch_bound b c) (finish_both_bound b x (fold_catch b c).result f) (omega arith) (λ e. ap (λ y. TryBoth b x y f) e)
