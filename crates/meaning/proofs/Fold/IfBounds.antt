-- The fold of an If pays for its changes, for a lawful host: expressions 0 and 1 have their own truth.
use Rattle.std.proofs.Common.{◌≡◌, ℕ, zero, suc, ◌+◌, ◌≤◌, Bool, true, false, cond, not, eqb, leb, List, [], ◌∷◌, length, Some, None, Option, sym, refl, ap, ◌∙◌, subst, arith, eqb→eq, leb→le}
use Rattle.host.specs.Model.{Model, Lawful}
use Rattle.host.specs.Sequence.{parts_of, truth_of, effects_of}
use Rattle.words.specs.Tree.{Expression, expression}
use Rattle.words.specs.Tree.{Statement, Empty, Break, Continue, Block, Expr, Throw, Var, If, IfElse, For, While, Do, Switch, Label, BreakTo, ContinueTo, Return, TryCatch, TryFinally, TryBoth}
use Rattle.words.specs.Tree.{none, some, Let}
use Rattle.scan.specs.Weight.{weight_expression, test_weight}
use Rattle.meaning.proofs.Measure.{Scale, own, measure, at_least_one, expression_one, stub_cost, cost_more, names_less, granted_length}
use Rattle.meaning.specs.Fold.Folded.{Folded, folded, unchanged, changed, if_so, plus_changes}
use Rattle.meaning.specs.Fold.KeepVar.{keep_var, stub_var}
use Rattle.meaning.specs.Fold.IsTerminated.{is_bare_var}
use Rattle.meaning.specs.Fold.If.{if_statement, literal_number, literal_test, is_literal_test, is_empty, or_empty, keep_optional, is_present, stub_branch, stub_alternate, not_granted, write_test, fold_true, fold_false, fold_test, fold_parts, as_alternate, fold_alternate, try_fold_if, try_fold_if_else}
use Rattle.meaning.proofs.Bound.{Bound, impossible, zero_left, zero_right, stub_var_measure}

module _ (z : Scale) where
  abbrev measure_optional : Option Statement → ℕ
  measure_optional None = 0
  measure_optional (Some s) = measure z s

  -- an If by its parts
  abbrev if_measure : Expression → Statement → Option Statement → ℕ
  if_measure e s t = own z + z.scaled (test_weight e) + (weight_expression e + (measure z s + measure_optional t))

  if_is : (e : Expression) (s : Statement) (t : Option Statement) → measure z (if_statement e s t) ≡ if_measure e s t
  if_is e s None = omega arith
  if_is e s (Some t) = refl

  abbrev Pays : Expression → Statement → Option Statement → Folded Statement → Type 0
  Pays e s t f = (measure z f.result + z.scaled f.changes ≤ if_measure e s t) × (f.changes ≡ 0 → f.result ≡ if_statement e s t)

  stub_pays : (m : Model) (s : Statement) (x : ℕ) (xs : List ℕ) → not_granted m (keep_var s) ≡ x ∷ xs →
      (measure z (stub_branch s x xs).result + z.scaled (stub_branch s x xs).changes ≤ measure z s) × ((stub_branch s x xs).changes ≡ 0 → (stub_branch s x xs).result ≡ s)
  stub_pays m s x xs q = go (is_bare_var s) refl
    where
      go : (b : Bool) → is_bare_var s ≡ b → (measure z (cond b (unchanged s) (changed (stub_var x xs))).result + z.scaled (cond b (unchanged s) (changed (stub_var x xs))).changes ≤ measure z s)
          × ((cond b (unchanged s) (changed (stub_var x xs))).changes ≡ 0 → (cond b (unchanged s) (changed (stub_var x xs))).result ≡ s)
      go true r = (let e : z.scaled 0 ≡ 0 = z.at_zero in omega arith, λ p. refl)
      go false r = (
        let a : measure z (stub_var x xs) ≡ stub_cost z (length (x ∷ xs)) = stub_var_measure z x xs in
            let b : stub_cost z (length (keep_var s)) + z.unit ≤ measure z s = names_less z s r in
            let P : List ℕ → Type 0 = λ ys. length ys ≤ length (keep_var s) in
            let c : length (x ∷ xs) ≤ length (keep_var s) = subst P q (granted_length m (keep_var s)) in
            let d : stub_cost z (length (x ∷ xs)) ≤ stub_cost z (length (keep_var s)) = cost_more z _ _ c in
            let e : z.scaled 1 ≡ z.unit = z.at_one in omega arith,
        λ p. impossible p,
      )

  alternate_pays : (m : Model) (t : Option Statement) (x : ℕ) (xs : List ℕ) → not_granted m (keep_optional t) ≡ x ∷ xs →
      (measure_optional (stub_alternate t x xs).result + z.scaled (stub_alternate t x xs).changes ≤ measure_optional t) × ((stub_alternate t x xs).changes ≡ 0 → (stub_alternate t x xs).result ≡ t)
  alternate_pays m None x xs q = (let e : z.scaled 0 ≡ 0 = z.at_zero in omega arith, λ p. refl)
  alternate_pays m (Some t) x xs q = let p = stub_pays m t x xs q in (p.0, λ r. ap Some (p.1 r))

  module _ (m : Model) (law : Lawful m) where
    -- a test of known truth that is not its literal is no literal 0 or 1 at all
    not_literal : (b : Bool) (e : Expression) → truth_of m (parts_of e) ≡ Some b → is_literal_test b e ≡ false → test_weight e ≡ 1
    not_literal b (expression x (y ∷ ys)) p q = refl
    not_literal b (expression x []) p q = go (leb x 1) refl
      where
        zero_case : (b : Bool) → m.truth? 0 ≡ Some b → eqb 0 (literal_number b) ≡ false → test_weight (expression 0 []) ≡ 1
        zero_case true p q = let e : Some true ≡ Some false = sym p ∙ law.zero.has_truth in cc
        zero_case false p q = cc

        one_case : (b : Bool) → m.truth? 1 ≡ Some b → eqb 1 (literal_number b) ≡ false → test_weight (expression 1 []) ≡ 1
        one_case true p q = cc
        one_case false p q = let e : Some false ≡ Some true = sym p ∙ law.one.has_truth in cc

        small : (x : ℕ) → x ≤ 1 → m.truth? x ≡ Some b → eqb x (literal_number b) ≡ false → test_weight (expression x []) ≡ 1
        small zero l p q = zero_case b p q
        small (suc zero) l p q = one_case b p q
        small (suc (suc x)) l p q = absurd (omega arith)

        go : (c : Bool) → leb x 1 ≡ c → test_weight (expression x []) ≡ 1
        go true r = small x (leb→le x 1 (rw r tt)) p q
        go false r = ap (λ c. cond c 0 1) r

    is_the_literal : (b : Bool) (e : Expression) → is_literal_test b e ≡ true → literal_test b ≡ e
    is_the_literal b (expression x []) q = ap (λ y. expression y []) (sym (eqb→eq x (literal_number b) (rw q tt)))
    is_the_literal b (expression x (y ∷ ys)) q = absurd (let y : ◌≡◌ {A = ℕ} 0 1 = cc in omega arith)

    literal_weight : (b : Bool) → test_weight (literal_test b) ≡ 0
    literal_weight true = refl
    literal_weight false = refl

    abbrev Written : Expression → Folded Expression → Type 0
    Written e f = (z.scaled (test_weight f.result) + weight_expression f.result + z.scaled f.changes ≤ z.scaled (test_weight e) + weight_expression e) × (f.changes ≡ 0 → f.result ≡ e)

    write_pays : (b : Bool) (e : Expression) → truth_of m (parts_of e) ≡ Some b → Written e (write_test m b e)
    write_pays b e p = go (effects_of m (parts_of e))
      where
        written : (c : Bool) → is_literal_test b e ≡ c → Written e (folded (literal_test b) (if_so (not c)))
        written true q =
            let f : literal_test b ≡ e = is_the_literal b e q in
            let P : Expression → Type 0 = λ x. Written x (folded (literal_test b) 0) in
            subst P f (let g : z.scaled 0 ≡ 0 = z.at_zero in omega arith, λ r. refl)
        written false q = (
          let a : z.scaled (test_weight (literal_test b)) ≡ 0 = ap z.scaled (literal_weight b) ∙ z.at_zero in
              let c : z.scaled (test_weight e) ≡ z.scaled 1 = ap z.scaled (not_literal b e p q) in
              let d : 1 ≤ weight_expression e = expression_one z e in omega arith,
          λ r. impossible r,
        )

        go : (c : Bool) → Written e (cond c (unchanged e) (folded (literal_test b) (if_so (not (is_literal_test b e)))))
        go true = (let g : z.scaled 0 ≡ 0 = z.at_zero in omega arith, λ r. refl)
        go false = written (is_literal_test b e) refl

    present_cost : (t : Option Statement) → z.scaled (if_so (is_present t)) ≤ measure_optional t
    present_cost None = let e : z.scaled 0 ≡ 0 = z.at_zero in omega arith
    present_cost (Some t) = let e : z.scaled 1 ≡ z.unit = z.at_one in let v : z.unit ≤ 1 = z.small in let o : 1 ≤ measure z t = at_least_one z t in omega arith

    present_same : (t : Option Statement) → if_so (is_present t) ≡ 0 → t ≡ None
    present_same None q = refl
    present_same (Some t) q = absurd (omega arith)

    write_none : (b : Bool) (e : Expression) → effects_of m (parts_of e) ≡ true → (write_test m b e).changes ≡ 0
    write_none b e q = ap (λ c. (cond c (unchanged e) (folded (literal_test b) (if_so (not (is_literal_test b e))))).changes) q

    -- what writing the test leaves of its own measure
    write_spare : (b : Bool) (e : Expression) → truth_of m (parts_of e) ≡ Some b → z.scaled (write_test m b e).changes + 1 ≤ z.scaled (test_weight e) + weight_expression e
    write_spare b e q =
        let p : z.scaled (test_weight (write_test m b e).result) + weight_expression (write_test m b e).result + z.scaled (write_test m b e).changes ≤ z.scaled (test_weight e) + weight_expression e = (write_pays b e q).0 in
        let o : 1 ≤ weight_expression (write_test m b e).result = expression_one z (write_test m b e).result in omega arith

    empty_least : (s : Statement) → is_empty s ≡ false → own z ≤ measure z s
    empty_least Empty q = absurd (let y : ◌≡◌ {A = ℕ} 0 1 = cc in omega arith)
    empty_least Break q = omega arith
    empty_least Continue q = omega arith
    empty_least (Block ss) q = omega arith
    empty_least (Expr e) q = omega arith
    empty_least (Throw e) q = omega arith
    empty_least (Var d ds) q = omega arith
    empty_least (If e s) q = omega arith
    empty_least (IfElse e s t) q = omega arith
    empty_least (For i t u s) q = omega arith
    empty_least (While e s) q = omega arith
    empty_least (Do s e) q = omega arith
    empty_least (Switch e cs) q = omega arith
    empty_least (Label l s) q = omega arith
    empty_least (BreakTo l) q = omega arith
    empty_least (ContinueTo l) q = omega arith
    empty_least (Return e) q = omega arith
    empty_least (TryCatch b x c) q = omega arith
    empty_least (TryFinally b f) q = omega arith
    empty_least (TryBoth b x c f) q = omega arith

    emptied_cost : (s : Statement) → 1 + z.scaled (if_so (not (is_empty s))) ≤ measure z s
    emptied_cost s = go (is_empty s) refl
      where
        go : (b : Bool) → is_empty s ≡ b → 1 + z.scaled (if_so (not b)) ≤ measure z s
        go true q = let e : z.scaled 0 ≡ 0 = z.at_zero in let o : 1 ≤ measure z s = at_least_one z s in omega arith
        go false q = let e : z.scaled 1 ≡ z.unit = z.at_one in let o : own z ≤ measure z s = empty_least s q in omega arith

    emptied_same : (s : Statement) → if_so (not (is_empty s)) ≡ 0 → Empty ≡ s
    emptied_same Empty q = refl
    emptied_same Break q = absurd (omega arith)
    emptied_same Continue q = absurd (omega arith)
    emptied_same (Block ss) q = absurd (omega arith)
    emptied_same (Expr e) q = absurd (omega arith)
    emptied_same (Throw e) q = absurd (omega arith)
    emptied_same (Var d ds) q = absurd (omega arith)
    emptied_same (If e s) q = absurd (omega arith)
    emptied_same (IfElse e s t) q = absurd (omega arith)
    emptied_same (For i t u s) q = absurd (omega arith)
    emptied_same (While e s) q = absurd (omega arith)
    emptied_same (Do s e) q = absurd (omega arith)
    emptied_same (Switch e cs) q = absurd (omega arith)
    emptied_same (Label l s) q = absurd (omega arith)
    emptied_same (BreakTo l) q = absurd (omega arith)
    emptied_same (ContinueTo l) q = absurd (omega arith)
    emptied_same (Return e) q = absurd (omega arith)
    emptied_same (TryCatch b x c) q = absurd (omega arith)
    emptied_same (TryFinally b f) q = absurd (omega arith)
    emptied_same (TryBoth b x c f) q = absurd (omega arith)

    or_empty_cost : (t : Option Statement) → measure z (or_empty t) ≤ 1 + measure_optional t
    or_empty_cost None = omega arith
    or_empty_cost (Some t) = omega arith

    true_pays : (ns : List ℕ) (e : Expression) (s : Statement) (t : Option Statement) → not_granted m (keep_optional t) ≡ ns → truth_of m (parts_of e) ≡ Some true → Pays e s t (fold_true m ns e s t)
    true_pays [] e s t q r = go (effects_of m (parts_of e)) refl
      where
        go : (c : Bool) → effects_of m (parts_of e) ≡ c → Pays e s t (plus_changes (write_test m true e).changes (cond c (folded (If e s) (if_so (is_present t))) (changed s)))
        go true k = (
          let w : z.scaled (write_test m true e).changes ≡ 0 = ap z.scaled (write_none true e k) ∙ z.at_zero in
              let a : z.scaled ((write_test m true e).changes + if_so (is_present t)) ≡ z.scaled (write_test m true e).changes + z.scaled (if_so (is_present t)) = z.adds _ _ in
              let o : z.scaled (if_so (is_present t)) ≤ measure_optional t = present_cost t in omega arith,
          λ p. ap (if_statement e s) (sym (present_same t (zero_right (write_test m true e).changes _ p))),
        )
        go false k = (
          let w : z.scaled (write_test m true e).changes + 1 ≤ z.scaled (test_weight e) + weight_expression e = write_spare true e r in
              let a : z.scaled ((write_test m true e).changes + 1) ≡ z.scaled (write_test m true e).changes + z.scaled 1 = z.adds _ _ in
              let o : z.scaled 1 ≡ z.unit = z.at_one in omega arith,
          λ p. impossible (zero_right (write_test m true e).changes 1 p),
        )
    true_pays (x ∷ xs) e s t q r =
        let w = write_pays true e r in let v = alternate_pays m t x xs q in (
          let w1 : z.scaled (test_weight (write_test m true e).result) + weight_expression (write_test m true e).result + z.scaled (write_test m true e).changes ≤ z.scaled (test_weight e) + weight_expression e = w.0 in
              let v1 : measure_optional (stub_alternate t x xs).result + z.scaled (stub_alternate t x xs).changes ≤ measure_optional t = v.0 in
              let a : z.scaled ((write_test m true e).changes + (stub_alternate t x xs).changes) ≡ z.scaled (write_test m true e).changes + z.scaled (stub_alternate t x xs).changes = z.adds _ _ in
              let i : measure z (if_statement (write_test m true e).result s (stub_alternate t x xs).result) ≡ if_measure (write_test m true e).result s (stub_alternate t x xs).result = if_is _ s _ in omega arith,
          λ p j. if_statement (w.1 (zero_left _ (stub_alternate t x xs).changes p) j) s (v.1 (zero_right (write_test m true e).changes _ p) j),
        )

    false_pays : (ns : List ℕ) (e : Expression) (s : Statement) (t : Option Statement) → not_granted m (keep_var s) ≡ ns → truth_of m (parts_of e) ≡ Some false → Pays e s t (fold_false m ns e s t)
    false_pays [] e s t q r = go (effects_of m (parts_of e)) refl
      where
        go : (c : Bool) → effects_of m (parts_of e) ≡ c → Pays e s t (plus_changes (write_test m false e).changes (cond c (folded (if_statement e Empty t) (if_so (not (is_empty s)))) (changed (or_empty t))))
        go true k = (
          let w : z.scaled (write_test m false e).changes ≡ 0 = ap z.scaled (write_none false e k) ∙ z.at_zero in
              let a : z.scaled ((write_test m false e).changes + if_so (not (is_empty s))) ≡ z.scaled (write_test m false e).changes + z.scaled (if_so (not (is_empty s))) = z.adds _ _ in
              let o : 1 + z.scaled (if_so (not (is_empty s))) ≤ measure z s = emptied_cost s in
              let i : measure z (if_statement e Empty t) ≡ if_measure e Empty t = if_is e Empty t in omega arith,
          λ p. ap (λ x. if_statement e x t) (emptied_same s (zero_right (write_test m false e).changes _ p)),
        )
        go false k = (
          let w : z.scaled (write_test m false e).changes + 1 ≤ z.scaled (test_weight e) + weight_expression e = write_spare false e r in
              let a : z.scaled ((write_test m false e).changes + 1) ≡ z.scaled (write_test m false e).changes + z.scaled 1 = z.adds _ _ in
              let o : z.scaled 1 ≡ z.unit = z.at_one in let i : measure z (or_empty t) ≤ 1 + measure_optional t = or_empty_cost t in omega arith,
          λ p. impossible (zero_right (write_test m false e).changes 1 p),
        )
    false_pays (x ∷ xs) e s t q r =
        let w = write_pays false e r in let v = stub_pays m s x xs q in (
          let w1 : z.scaled (test_weight (write_test m false e).result) + weight_expression (write_test m false e).result + z.scaled (write_test m false e).changes ≤ z.scaled (test_weight e) + weight_expression e = w.0 in
              let v1 : measure z (stub_branch s x xs).result + z.scaled (stub_branch s x xs).changes ≤ measure z s = v.0 in
              let a : z.scaled ((write_test m false e).changes + (stub_branch s x xs).changes) ≡ z.scaled (write_test m false e).changes + z.scaled (stub_branch s x xs).changes = z.adds _ _ in
              let i : measure z (if_statement (write_test m false e).result (stub_branch s x xs).result t) ≡ if_measure (write_test m false e).result (stub_branch s x xs).result t = if_is _ _ t in omega arith,
          λ p j. if_statement (w.1 (zero_left _ (stub_branch s x xs).changes p) j) (v.1 (zero_right (write_test m false e).changes _ p) j) t,
        )

    parts_pays : (b : Option Bool) (e : Expression) (s : Statement) (t : Option Statement) → truth_of m (parts_of e) ≡ b → Pays e s t (fold_test m b e s t)
    parts_pays None e s t q = (let i : measure z (if_statement e s t) ≡ if_measure e s t = if_is e s t in let o : z.scaled 0 ≡ 0 = z.at_zero in omega arith, λ p. refl)
    parts_pays (Some true) e s t q = true_pays (not_granted m (keep_optional t)) e s t refl q
    parts_pays (Some false) e s t q = false_pays (not_granted m (keep_var s)) e s t refl q

    pub if_bound : (e : Expression) (s : Statement) → Bound z (If e s) (try_fold_if m e s)
    if_bound e s = let p = parts_pays (truth_of m (parts_of e)) e s None refl in
        (let q : measure z (try_fold_if m e s).result + z.scaled (try_fold_if m e s).changes ≤ if_measure e s None = p.0 in omega arith, p.1)

    abbrev PaysOptional : Statement → Folded (Option Statement) → Type 0
    PaysOptional s f = (measure_optional f.result + z.scaled f.changes ≤ measure z s) × (f.changes ≡ 0 → f.result ≡ Some s)

    kept_alternate : (s : Statement) → PaysOptional s (unchanged (Some s))
    kept_alternate s = (let o : z.scaled 0 ≡ 0 = z.at_zero in omega arith, λ q. refl)

    gone_alternate : (s : Statement) → PaysOptional s (changed None)
    gone_alternate s = (let o : z.scaled 1 ≡ z.unit = z.at_one in let v : z.unit ≤ 1 = z.small in let i : 1 ≤ measure z s = at_least_one z s in omega arith, λ q. impossible q)

    -- an If whose alternate is folded first
    else_pays : (e : Expression) (s t : Statement) (f : Folded (Option Statement)) → PaysOptional t f → Bound z (IfElse e s t) (plus_changes f.changes (fold_parts m e s f.result))
    else_pays e s t f p =
        let q = parts_pays (truth_of m (parts_of e)) e s f.result refl in (
          let p1 : measure_optional f.result + z.scaled f.changes ≤ measure z t = p.0 in
              let q1 : measure z (fold_parts m e s f.result).result + z.scaled (fold_parts m e s f.result).changes ≤ if_measure e s f.result = q.0 in
              let a : z.scaled (f.changes + (fold_parts m e s f.result).changes) ≡ z.scaled f.changes + z.scaled (fold_parts m e s f.result).changes = z.adds _ _ in omega arith,
          λ r. q.1 (zero_right f.changes _ r) ∙ ap (if_statement e s) (p.1 (zero_left f.changes _ r)),
        )

    as_pays : (s : Statement) (f : Folded Statement) → Bound z s f → PaysOptional s (as_alternate m f)
    as_pays s f p = (p.0, λ q. ap Some (p.1 q))

    pub alternate_bound : (s : Statement) → PaysOptional s (fold_alternate m s)
    unfolding fold_alternate
    alternate_bound Empty = gone_alternate Empty
    alternate_bound Break = kept_alternate Break
    alternate_bound Continue = kept_alternate Continue
    alternate_bound (Block none) = gone_alternate (Block none)
    alternate_bound (Block (some s ss)) = kept_alternate (Block (some s ss))
    alternate_bound (Block (Let d ds ss)) = kept_alternate (Block (Let d ds ss))
    alternate_bound (Expr e) = kept_alternate (Expr e)
    alternate_bound (Throw e) = kept_alternate (Throw e)
    alternate_bound (Var d ds) = kept_alternate (Var d ds)
    alternate_bound (If e s) = as_pays (If e s) (fold_parts m e s None) (if_bound e s)
    alternate_bound (IfElse e s t) = as_pays (IfElse e s t) (plus_changes (fold_alternate m t).changes (fold_parts m e s (fold_alternate m t).result)) (else_pays e s t (fold_alternate m t) (alternate_bound t))
    alternate_bound (For i t u s) = kept_alternate (For i t u s)
    alternate_bound (While e s) = kept_alternate (While e s)
    alternate_bound (Do s e) = kept_alternate (Do s e)
    alternate_bound (Switch e cs) = kept_alternate (Switch e cs)
    alternate_bound (Label l s) = kept_alternate (Label l s)
    alternate_bound (BreakTo l) = kept_alternate (BreakTo l)
    alternate_bound (ContinueTo l) = kept_alternate (ContinueTo l)
    alternate_bound (Return e) = kept_alternate (Return e)
    alternate_bound (TryCatch b x c) = kept_alternate (TryCatch b x c)
    alternate_bound (TryFinally b f) = kept_alternate (TryFinally b f)
    alternate_bound (TryBoth b x c f) = kept_alternate (TryBoth b x c f)

    pub if_else_bound : (e : Expression) (s t : Statement) → Bound z (IfElse e s t) (try_fold_if_else m e s t)
    if_else_bound e s t = else_pays e s t (fold_alternate m t) (alternate_bound t)
