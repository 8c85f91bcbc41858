-- The folds of a Switch pay for their changes.
use Rattle.std.proofs.Common.{◌≡◌, ℕ, ◌+◌, ◌<◌, ◌≤◌, Bool, true, false, cond, ltb, Option, refl, ap, ◌∙◌, arith, ltb→lt, nltb→le}
use Rattle.host.specs.Model.{Model}
use Rattle.words.specs.Tree.{Expression}
use Rattle.words.specs.Tree.{Statement, Empty, Break, Continue, Block, Expr, Throw, Var, If, IfElse, For, While, Do, Switch, Label, BreakTo, ContinueTo, Return, TryCatch, TryFinally, TryBoth}
use Rattle.words.specs.Tree.{Statements, none, some, Let, Cases, no_case, case}
use Rattle.words.specs.Encode.{count_cases}
use Rattle.meaning.proofs.Measure.{Scale, own, measure, measure_list, measure_cases}
use Rattle.meaning.specs.Fold.Folded.{Folded, if_so, plus_changes}
use Rattle.meaning.specs.Fold.Select.{drop_unreachable_switch_cases}
use Rattle.meaning.specs.Fold.Switch.{is_break, ends_in_break, without_last_break, cases_end_in_break, cases_without_last_break, has_default, cases_from_default, cut_last, cut_before_last, is_removable, without_end, without_before_last, unless_default_left, without_empty_by, without_empty, finish_switch, try_fold_switch, fold_switch}
use Rattle.meaning.proofs.Bound.{Bound, bound_changed, impossible, zero_left, zero_right}
use Rattle.meaning.proofs.Fold.SelectBounds.{BoundCases, select_bound}

module _ (z : Scale) where
  -- r is cs, or has fewer cases and measures less by each of them
  abbrev Shrinks : Cases → Cases → Type 0
  Shrinks cs r = (measure_cases z r + count_cases cs ≤ measure_cases z cs + count_cases r) × (count_cases r ≤ count_cases cs) × (count_cases r ≡ count_cases cs → r ≡ cs)

  shrinks_same : (cs : Cases) → Shrinks cs cs
  shrinks_same cs = (omega arith, omega arith, λ q. refl)

  -- one more in front
  shrinks_more : (t : Option Expression) (ss : Statements) (cs r : Cases) → Shrinks cs r → Shrinks (case t ss cs) (case t ss r)
  shrinks_more t ss cs r p = (
    let a : measure_cases z r + count_cases cs ≤ measure_cases z cs + count_cases r = p.0 in omega arith,
    let b : count_cases r ≤ count_cases cs = p.1 in omega arith,
    λ q. ap (case t ss) (p.2 (omega arith)),
  )

  shrinks_drop : (t : Option Expression) (ss : Statements) (cs r : Cases) → Shrinks cs r → Shrinks (case t ss cs) r
  shrinks_drop t ss cs r p = (
    let a : measure_cases z r + count_cases cs ≤ measure_cases z cs + count_cases r = p.0 in omega arith,
    let b : count_cases r ≤ count_cases cs = p.1 in omega arith,
    λ q. absurd (let b : count_cases r ≤ count_cases cs = p.1 in omega arith),
  )

  cut_last_shrinks : (b : Bool) (t : Option Expression) (ss : Statements) (cs r : Cases) → Shrinks cs r → Shrinks (case t ss cs) (cut_last b t ss r)
  unfolding cut_last
  cut_last_shrinks true t ss cs no_case p = shrinks_drop t ss cs no_case p
  cut_last_shrinks true t ss cs (case u ts r) p = shrinks_more t ss cs (case u ts r) p
  cut_last_shrinks false t ss cs r p = shrinks_more t ss cs r p

  cut_before_shrinks : (b : Bool) (t : Option Expression) (ss : Statements) (cs r : Cases) → Shrinks cs r → Shrinks (case t ss cs) (cut_before_last b t ss r)
  unfolding cut_before_last
  cut_before_shrinks b t ss cs no_case p = shrinks_more t ss cs no_case p
  cut_before_shrinks true t ss cs (case u ts no_case) p = shrinks_drop t ss cs (case u ts no_case) p
  cut_before_shrinks false t ss cs (case u ts no_case) p = shrinks_more t ss cs (case u ts no_case) p
  cut_before_shrinks b t ss cs (case u ts (case v us r)) p = shrinks_more t ss cs (case u ts (case v us r)) p

  module _ (m : Model) where
    end_shrinks : (cs : Cases) → Shrinks cs (without_end m cs)
    unfolding without_end
    end_shrinks no_case = shrinks_same no_case
    end_shrinks (case t ss cs) = cut_last_shrinks (is_removable m true t ss) t ss cs (without_end m cs) (end_shrinks cs)

    before_shrinks : (cs : Cases) → Shrinks cs (without_before_last m cs)
    unfolding without_before_last
    before_shrinks no_case = shrinks_same no_case
    before_shrinks (case t ss cs) = cut_before_shrinks (is_removable m false t ss) t ss cs (without_before_last m cs) (before_shrinks cs)

    cond_shrinks : (b : Bool) (cs r s : Cases) → Shrinks cs r → Shrinks cs s → Shrinks cs (cond b r s)
    cond_shrinks true cs r s p q = p
    cond_shrinks false cs r s p q = q

    unless_shrinks : (cs : Cases) → Shrinks cs (unless_default_left m cs (without_end m cs))
    unless_shrinks cs = cond_shrinks (has_default (without_end m cs)) cs cs (without_end m cs) (shrinks_same cs) (end_shrinks cs)

    empty_shrinks : (cs c : Cases) → Shrinks cs (without_empty_by m cs c)
    empty_shrinks cs no_case = unless_shrinks cs
    empty_shrinks cs (case t ss no_case) = cond_shrinks (is_removable m true t ss) cs _ _ (unless_shrinks cs) (before_shrinks cs)
    empty_shrinks cs (case t ss (case u ts r)) = cond_shrinks (is_removable m true t ss) cs _ _ (unless_shrinks cs) (shrinks_same cs)

  -- a last Break
  break_measure : (s : Statement) → is_break s ≡ true → measure z s ≡ own z
  unfolding is_break
  break_measure Empty q = absurd (let y : ◌≡◌ {A = ℕ} 0 1 = cc in omega arith)
  break_measure Break q = refl
  break_measure Continue q = absurd (let y : ◌≡◌ {A = ℕ} 0 1 = cc in omega arith)
  break_measure (Block ss) q = absurd (let y : ◌≡◌ {A = ℕ} 0 1 = cc in omega arith)
  break_measure (Expr e) q = absurd (let y : ◌≡◌ {A = ℕ} 0 1 = cc in omega arith)
  break_measure (Throw e) q = absurd (let y : ◌≡◌ {A = ℕ} 0 1 = cc in omega arith)
  break_measure (Var d ds) q = absurd (let y : ◌≡◌ {A = ℕ} 0 1 = cc in omega arith)
  break_measure (If e s) q = absurd (let y : ◌≡◌ {A = ℕ} 0 1 = cc in omega arith)
  break_measure (IfElse e s t) q = absurd (let y : ◌≡◌ {A = ℕ} 0 1 = cc in omega arith)
  break_measure (For i t u s) q = absurd (let y : ◌≡◌ {A = ℕ} 0 1 = cc in omega arith)
  break_measure (While e s) q = absurd (let y : ◌≡◌ {A = ℕ} 0 1 = cc in omega arith)
  break_measure (Do s e) q = absurd (let y : ◌≡◌ {A = ℕ} 0 1 = cc in omega arith)
  break_measure (Switch e cs) q = absurd (let y : ◌≡◌ {A = ℕ} 0 1 = cc in omega arith)
  break_measure (Label l s) q = absurd (let y : ◌≡◌ {A = ℕ} 0 1 = cc in omega arith)
  break_measure (BreakTo l) q = absurd (let y : ◌≡◌ {A = ℕ} 0 1 = cc in omega arith)
  break_measure (ContinueTo l) q = absurd (let y : ◌≡◌ {A = ℕ} 0 1 = cc in omega arith)
  break_measure (Return e) q = absurd (let y : ◌≡◌ {A = ℕ} 0 1 = cc in omega arith)
  break_measure (TryCatch b x c) q = absurd (let y : ◌≡◌ {A = ℕ} 0 1 = cc in omega arith)
  break_measure (TryFinally b f) q = absurd (let y : ◌≡◌ {A = ℕ} 0 1 = cc in omega arith)
  break_measure (TryBoth b x c f) q = absurd (let y : ◌≡◌ {A = ℕ} 0 1 = cc in omega arith)

  last_bound : (ss : Statements) → (measure_list z (without_last_break ss) + z.scaled (if_so (ends_in_break ss)) ≤ measure_list z ss) × (if_so (ends_in_break ss) ≡ 0 → without_last_break ss ≡ ss)
  unfolding without_last_break ends_in_break
  last_bound none = (let e : z.scaled 0 ≡ 0 = z.at_zero in omega arith, λ q. refl)
  last_bound (some s none) = go (is_break s) refl
    where
      go : (b : Bool) → is_break s ≡ b → (measure_list z (cond b none (some s none)) + z.scaled (if_so b) ≤ measure z s + 0) × (if_so b ≡ 0 → cond b none (some s none) ≡ some s none)
      go true q = (let e : z.scaled 1 ≡ z.unit = z.at_one in let f : measure z s ≡ own z = break_measure s q in omega arith, λ p. impossible p)
      go false q = (let e : z.scaled 0 ≡ 0 = z.at_zero in omega arith, λ p. refl)
  last_bound (some s (some t ss)) = let p = last_bound (some t ss) in
      (let q : measure_list z (without_last_break (some t ss)) + z.scaled (if_so (ends_in_break (some t ss))) ≤ measure_list z (some t ss) = p.0 in omega arith, λ r. ap (some s) (p.1 r))
  last_bound (some s (Let d ds ss)) = let p = last_bound (Let d ds ss) in
      (let q : measure_list z (without_last_break (Let d ds ss)) + z.scaled (if_so (ends_in_break (Let d ds ss))) ≤ measure_list z (Let d ds ss) = p.0 in omega arith, λ r. ap (some s) (p.1 r))
  last_bound (Let d ds ss) = let p = last_bound ss in
      (let q : measure_list z (without_last_break ss) + z.scaled (if_so (ends_in_break ss)) ≤ measure_list z ss = p.0 in omega arith, λ r. ap (Let d ds) (p.1 r))

  break_bound : (cs : Cases) → (measure_cases z (cases_without_last_break cs) + z.scaled (if_so (cases_end_in_break cs)) ≤ measure_cases z cs) × (if_so (cases_end_in_break cs) ≡ 0 → cases_without_last_break cs ≡ cs)
  unfolding cases_without_last_break cases_end_in_break
  break_bound no_case = (let e : z.scaled 0 ≡ 0 = z.at_zero in omega arith, λ q. refl)
  break_bound (case t ss no_case) = let p = last_bound ss in
      (let q : measure_list z (without_last_break ss) + z.scaled (if_so (ends_in_break ss)) ≤ measure_list z ss = p.0 in omega arith, λ r. ap (λ x. case t x no_case) (p.1 r))
  break_bound (case t ss (case u ts cs)) = let p = break_bound (case u ts cs) in
      (let q : measure_cases z (cases_without_last_break (case u ts cs)) + z.scaled (if_so (cases_end_in_break (case u ts cs))) ≤ measure_cases z (case u ts cs) = p.0 in omega arith, λ r. ap (case t ss) (p.1 r))

  module _ (m : Model) where
    finish_bound : (e : Expression) (cs : Cases) → Bound z (Switch e cs) (finish_switch m e cs)
    finish_bound e no_case = bound_changed z (Switch e no_case) (Expr e) (omega arith)
    finish_bound e (case t ss cs) = let p = break_bound (case t ss cs) in
        (let q : measure_cases z (cases_without_last_break (case t ss cs)) + z.scaled (if_so (cases_end_in_break (case t ss cs))) ≤ measure_cases z (case t ss cs) = p.0 in omega arith, λ r. ap (Switch e) (p.1 r))

    dropped_bound : (e : Expression) (cs r : Cases) → Shrinks cs r → Bound z (Switch e cs) (plus_changes (if_so (ltb (count_cases r) (count_cases cs))) (finish_switch m e r))
    dropped_bound e cs r p = go (ltb (count_cases r) (count_cases cs)) refl
      where
        go : (b : Bool) → ltb (count_cases r) (count_cases cs) ≡ b → Bound z (Switch e cs) (plus_changes (if_so b) (finish_switch m e r))
        go true q = (
          let a : count_cases r < count_cases cs = ltb→lt _ _ (rw q tt) in
              let b : measure_cases z r + count_cases cs ≤ measure_cases z cs + count_cases r = p.0 in
              let f : measure z (finish_switch m e r).result + z.scaled (finish_switch m e r).changes ≤ measure z (Switch e r) = (finish_bound e r).0 in
              let g : z.scaled (1 + (finish_switch m e r).changes) ≡ z.scaled 1 + z.scaled (finish_switch m e r).changes = z.adds 1 _ in
              let o : z.scaled 1 ≡ z.unit = z.at_one in let v : z.unit ≤ 1 = z.small in omega arith,
          λ k. impossible (zero_left 1 (finish_switch m e r).changes k),
        )
        go false q =
            let a : count_cases cs ≤ count_cases r = nltb→le _ _ (rw q tt) in
            let b : count_cases r ≤ count_cases cs = p.1 in
            let s : r ≡ cs = p.2 (omega arith) in (
              let f : measure z (finish_switch m e r).result + z.scaled (finish_switch m e r).changes ≤ measure z (Switch e r) = (finish_bound e r).0 in
                  let g : z.scaled (0 + (finish_switch m e r).changes) ≡ z.scaled 0 + z.scaled (finish_switch m e r).changes = z.adds 0 _ in
                  let o : z.scaled 0 ≡ 0 = z.at_zero in
                  let h : measure z (Switch e r) ≡ measure z (Switch e cs) = ap (λ x. measure z (Switch e x)) s in omega arith,
              λ k. (finish_bound e r).1 (zero_right 0 (finish_switch m e r).changes k) ∙ ap (Switch e) s,
            )

    try_bound : (e : Expression) (cs : Cases) → Bound z (Switch e cs) (try_fold_switch m e cs)
    try_bound e cs = dropped_bound e cs (without_empty m cs) (empty_shrinks m cs (cases_from_default cs))

    -- a selection first
    after_select : (e : Expression) (cs : Cases) (f : Folded Cases) → BoundCases z m cs f → Bound z (Switch e cs) (plus_changes f.changes (try_fold_switch m e f.result))
    after_select e cs f p = let q = try_bound e f.result in (
      let p1 : measure_cases z f.result + z.scaled f.changes ≤ measure_cases z cs = p.0 in
          let q1 : measure z (try_fold_switch m e f.result).result + z.scaled (try_fold_switch m e f.result).changes ≤ measure z (Switch e f.result) = q.0 in
          let a : z.scaled (f.changes + (try_fold_switch m e f.result).changes) ≡ z.scaled f.changes + z.scaled (try_fold_switch m e f.result).changes = z.adds _ _ in omega arith,
      λ r. q.1 (zero_right f.changes _ r) ∙ ap (Switch e) (p.1 (zero_left f.changes _ r)),
    )

    pub switch_bound : (e : Expression) (cs : Cases) → Bound z (Switch e cs) (fold_switch m e cs)
    switch_bound e cs = after_select e cs (drop_unreachable_switch_cases m e cs) (select_bound z m e cs)
