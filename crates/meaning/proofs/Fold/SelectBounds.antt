-- Selection pays for its change.
use Rattle.std.proofs.Common.{◌≡◌, ℕ, zero, ◌+◌, ◌≤◌, Bool, true, false, cond, ◌&&◌, List, [], ◌∷◌, ◌++◌, length, Some, None, Option, sym, refl, subst, arith}
use Rattle.host.specs.Model.{Model, Value}
use Rattle.host.specs.Sequence.{parts_of, value_of, effects_of}
use Rattle.words.specs.Tree.{Expression, expression}
use Rattle.words.specs.Tree.{Statements, none, some, Let, Cases, no_case, case}
use Rattle.scan.specs.Weight.{weight_expression, weight_optional}
use Rattle.meaning.proofs.Measure.{Scale, measure_list, measure_cases, stub_cost, list_cost, names_both, length_append}
use Rattle.meaning.specs.Fold.Folded.{Folded, unchanged, changed}
use Rattle.meaning.proofs.Evaluations.{append_nil}
use Rattle.meaning.specs.Run.{let_names_cases}
use Rattle.meaning.specs.Fold.KeepVar.{keep_list, stub_list}
use Rattle.meaning.specs.Fold.IsTerminated.{is_terminated_list}
use Rattle.meaning.specs.Fold.Select.{Entry, matched, default, missing, Standing, before, past, join, optional_parts, next, lives, keeps_test, bodies, lost_names, kept_statements, as_test, lead, later, at_default, is_several, is_none, kept_tests, entry_at, entry_of, select_entry, select_value, drop_unreachable_switch_cases}
use Rattle.meaning.proofs.Bound.{impossible, stub_list_measure}

-- an expression of these parts, and one more
abbrev part_cost : List ℕ → ℕ
part_cost [] = 0
part_cost (x ∷ xs) = weight_expression (expression x xs) + 1

part_most : (x : ℕ) (xs : List ℕ) → part_cost (x ∷ xs) ≤ length (x ∷ xs) + 2
part_most x [] = omega arith
part_most x (y ∷ ys) = omega arith

part_least : (x : ℕ) (xs : List ℕ) → length (x ∷ xs) + 1 ≤ part_cost (x ∷ xs)
part_least x [] = omega arith
part_least x (y ∷ ys) = omega arith

part_append : (xs ys : List ℕ) → part_cost (xs ++ ys) ≤ part_cost xs + part_cost ys
part_append [] ys = omega arith
part_append (x ∷ xs) [] = let P : List ℕ → Type 0 = λ zs. part_cost zs ≤ part_cost (x ∷ xs) + 0 in subst P (sym (append_nil (x ∷ xs))) (omega arith)
part_append (x ∷ xs) (y ∷ ys) =
    let a : part_cost (x ∷ (xs ++ y ∷ ys)) ≤ length (x ∷ (xs ++ y ∷ ys)) + 2 = part_most x (xs ++ y ∷ ys) in
    let b : length (xs ++ y ∷ ys) ≡ length xs + length (y ∷ ys) = length_append xs (y ∷ ys) in
    let c : length (x ∷ xs) + 1 ≤ part_cost (x ∷ xs) = part_least x xs in
    let d : length (y ∷ ys) + 1 ≤ part_cost (y ∷ ys) = part_least y ys in omega arith

part_cond : (b : Bool) (xs : List ℕ) → part_cost (cond b xs []) ≤ part_cost xs
part_cond true xs = omega arith
part_cond false xs = omega arith

-- all the tests, and an expression made of those that are kept
abbrev tests_total : Cases → ℕ
tests_total no_case = 0
tests_total (case t ss cs) = part_cost (optional_parts t) + tests_total cs

kept_total : (m : Model) (always all : Bool) (st : Standing) (cs : Cases) → part_cost (kept_tests m always all st cs) ≤ tests_total cs
kept_total m always all st no_case = omega arith
kept_total m always all st (case t ss cs) =
    let b = keeps_test always all st (effects_of m (optional_parts t)) in
    let p : part_cost (cond b (optional_parts t) [] ++ kept_tests m false all (next st (is_terminated_list ss)) cs) ≤ part_cost (cond b (optional_parts t) []) + part_cost (kept_tests m false all (next st (is_terminated_list ss)) cs) = part_append (cond b (optional_parts t) []) _ in
    let q : part_cost (cond b (optional_parts t) []) ≤ part_cost (optional_parts t) = part_cond b (optional_parts t) in
    let r : part_cost (kept_tests m false all (next st (is_terminated_list ss)) cs) ≤ tests_total cs = kept_total m false all (next st (is_terminated_list ss)) cs in omega arith

module _ (z : Scale) where
  abbrev bodies_total : Cases → ℕ
  bodies_total no_case = 0
  bodies_total (case t ss cs) = measure_list z ss + bodies_total cs

  -- what weight adds to the cases
  abbrev extra : Cases → ℕ
  extra no_case = 0
  extra (case t ss cs) = z.unit + z.unit + extra cs

  join_measure : (ss ts : Statements) → measure_list z (join ss ts) ≡ measure_list z ss + measure_list z ts
  join_measure none ts = omega arith
  join_measure (some s ss) ts = let p : measure_list z (join ss ts) ≡ measure_list z ss + measure_list z ts = join_measure ss ts in omega arith
  join_measure (Let d ds ss) ts = let p : measure_list z (join ss ts) ≡ measure_list z ss + measure_list z ts = join_measure ss ts in omega arith

  bodies_cost : (st : Standing) (cs : Cases) → measure_list z (bodies st cs) + stub_cost z (length (lost_names st cs)) ≤ bodies_total cs
  bodies_cost st no_case = omega arith
  bodies_cost st (case t ss cs) = go (lives st) (bodies_cost (next st (is_terminated_list ss)) cs)
    where
      go : (b : Bool) → measure_list z (bodies (next st (is_terminated_list ss)) cs) + stub_cost z (length (lost_names (next st (is_terminated_list ss)) cs)) ≤ bodies_total cs →
          measure_list z (join (cond b ss none) (bodies (next st (is_terminated_list ss)) cs)) + stub_cost z (length (cond b [] (keep_list ss) ++ lost_names (next st (is_terminated_list ss)) cs)) ≤ measure_list z ss + bodies_total cs
      go true r = let p : measure_list z (join ss (bodies (next st (is_terminated_list ss)) cs)) ≡ measure_list z ss + measure_list z (bodies (next st (is_terminated_list ss)) cs) = join_measure ss _ in omega arith
      go false r =
          let p : stub_cost z (length (keep_list ss ++ lost_names (next st (is_terminated_list ss)) cs)) ≤ measure_list z ss + stub_cost z (length (lost_names (next st (is_terminated_list ss)) cs))
          = names_both z (keep_list ss) (lost_names (next st (is_terminated_list ss)) cs) (measure_list z ss) _ (list_cost z ss) (omega arith) in omega arith

  kept_cost : (st : Standing) (cs : Cases) → measure_list z (kept_statements st cs) ≤ bodies_total cs
  kept_cost st cs =
      let p : measure_list z (kept_statements st cs) ≡ measure_list z (bodies st cs) + measure_list z (stub_list (lost_names st cs)) = join_measure (bodies st cs) _ in
      let q : measure_list z (stub_list (lost_names st cs)) ≡ stub_cost z (length (lost_names st cs)) = stub_list_measure z (lost_names st cs) in
      let r : measure_list z (bodies st cs) + stub_cost z (length (lost_names st cs)) ≤ bodies_total cs = bodies_cost st cs in omega arith

  test_cost : (t : Option Expression) → part_cost (optional_parts t) ≤ 1 + weight_optional t
  test_cost None = omega arith
  test_cost (Some (expression x xs)) = omega arith

  all_cost : (cs : Cases) → tests_total cs + bodies_total cs + extra cs ≤ measure_cases z cs
  all_cost no_case = omega arith
  all_cost (case t ss cs) = let p : part_cost (optional_parts t) ≤ 1 + weight_optional t = test_cost t in let q : tests_total cs + bodies_total cs + extra cs ≤ measure_cases z cs = all_cost cs in omega arith

  -- one more for a case without a test, and for any case at all where tests do not count
  default_cost : (ss : Statements) (cs : Cases) → tests_total (case None ss cs) + bodies_total (case None ss cs) + extra (case None ss cs) + 1 ≤ measure_cases z (case None ss cs)
  default_cost ss cs = let q : tests_total cs + bodies_total cs + extra cs ≤ measure_cases z cs = all_cost cs in omega arith

  some_cost : (cs : Cases) → is_several cs ≡ true → bodies_total cs + extra cs + 1 ≤ measure_cases z cs
  some_cost no_case q = absurd (let y : ◌≡◌ {A = ℕ} 0 1 = cc in omega arith)
  some_cost (case t ss cs) q = let p : tests_total cs + bodies_total cs + extra cs ≤ measure_cases z cs = all_cost cs in omega arith

  several_extra : (cs : Cases) → is_several cs ≡ true → z.unit + z.unit + z.unit + z.unit ≤ extra cs
  several_extra no_case q = absurd (let y : ◌≡◌ {A = ℕ} 0 1 = cc in omega arith)
  several_extra (case t ss no_case) q = absurd (let y : ◌≡◌ {A = ℕ} 0 1 = cc in omega arith)
  several_extra (case t ss (case u ts cs)) q = omega arith

  -- a Default that is the entry is one of the cases
  abbrev Spare : Option Entry → Cases → Type 0
  Spare None cs = Unit {0}
  Spare (Some (matched k)) cs = Unit {0}
  Spare (Some (default k)) cs = tests_total cs + bodies_total cs + extra cs + 1 ≤ measure_cases z cs
  Spare (Some missing) cs = Unit {0}

  module _ (m : Model) where
    past_default : (ss : Statements) (cs : Cases) (o : Option Entry) → Spare (at_default o) (case None ss cs)
    past_default ss cs None = tt
    past_default ss cs (Some (matched k)) = tt
    past_default ss cs (Some (default k)) = default_cost ss cs
    past_default ss cs (Some missing) = default_cost ss cs

    past_later : (t : Expression) (ss : Statements) (cs : Cases) (o : Option Entry) → Spare o cs → Spare (later o) (case (Some t) ss cs)
    past_later t ss cs None p = tt
    past_later t ss cs (Some (matched k)) p = tt
    past_later t ss cs (Some (default k)) p = let q : part_cost (optional_parts (Some t)) ≤ 1 + weight_optional (Some t) = test_cost (Some t) in omega arith
    past_later t ss cs (Some missing) p = tt

    past_test : (v : Value) (x : Option Value) (t : Expression) (ss : Statements) (cs : Cases) (o : Option Entry) → Spare o cs → Spare (entry_at m v x o) (case (Some t) ss cs)
    past_test v None t ss cs o p = tt
    past_test v (Some u) t ss cs o p = go (m.strictly_equal v u)
      where
        go : (b : Bool) → Spare (cond b (Some (matched zero)) (later o)) (case (Some t) ss cs)
        go true = tt
        go false = past_later t ss cs o p

    spare : (v : Value) (cs : Cases) → Spare (entry_of m v cs) cs
    spare v no_case = tt
    spare v (case None ss cs) = past_default ss cs (entry_of m v cs)
    spare v (case (Some t) ss cs) = past_test v (value_of m (parts_of t)) t ss cs (entry_of m v cs) (spare v cs)

    -- the one case that is left, by its test, or with its tests in front of its statements
    test_case : (ts : List ℕ) (ss : Statements) (cs : Cases) → is_several cs ≡ true → part_cost ts ≤ tests_total cs → measure_list z ss ≤ bodies_total cs → measure_cases z (case (as_test ts) ss no_case) + z.unit ≤ measure_cases z cs
    test_case [] ss cs n p q = let a : bodies_total cs + extra cs + 1 ≤ measure_cases z cs = some_cost cs n in let b : z.unit + z.unit + z.unit + z.unit ≤ extra cs = several_extra cs n in omega arith
    test_case (t ∷ ts) ss cs n p q = let a : tests_total cs + bodies_total cs + extra cs ≤ measure_cases z cs = all_cost cs in let b : z.unit + z.unit + z.unit + z.unit ≤ extra cs = several_extra cs n in omega arith

    lead_case : (ts : List ℕ) (ss : Statements) (cs : Cases) → is_several cs ≡ true → part_cost ts ≤ tests_total cs → measure_list z ss ≤ bodies_total cs → tests_total cs + bodies_total cs + extra cs + 1 ≤ measure_cases z cs →
        measure_cases z (case None (lead ts ss) no_case) + z.unit ≤ measure_cases z cs
    lead_case [] ss cs n p q r = let b : z.unit + z.unit + z.unit + z.unit ≤ extra cs = several_extra cs n in omega arith
    lead_case (t ∷ ts) ss cs n p q r = let b : z.unit + z.unit + z.unit + z.unit ≤ extra cs = several_extra cs n in omega arith

    abbrev pub BoundCases : Cases → Folded Cases → Type 0
    BoundCases cs f = (measure_cases z f.result + z.scaled f.changes ≤ measure_cases z cs) × (f.changes ≡ 0 → f.result ≡ cs)

    cases_same : (cs : Cases) → BoundCases cs (unchanged cs)
    cases_same cs = (let e : z.scaled 0 ≡ 0 = z.at_zero in omega arith, λ q. refl)

    cases_changed : (cs ds : Cases) → measure_cases z ds + z.unit ≤ measure_cases z cs → BoundCases cs (changed ds)
    cases_changed cs ds p = (let e : z.scaled 1 ≡ z.unit = z.at_one in omega arith, λ q. impossible q)

    entry_bound : (o : Option Entry) (cs : Cases) → is_several cs ≡ true → Spare o cs → BoundCases cs (select_entry m o cs)
    entry_bound None cs n p = cases_same cs
    entry_bound (Some (matched k)) cs n p = cases_changed cs _ (test_case (kept_tests m false false (before k) cs) (kept_statements (before k) cs) cs n (kept_total m false false (before k) cs) (kept_cost (before k) cs))
    entry_bound (Some (default k)) cs n p = cases_changed cs _ (lead_case (kept_tests m false true (before k) cs) (kept_statements (before k) cs) cs n (kept_total m false true (before k) cs) (kept_cost (before k) cs) p)
    entry_bound (Some missing) cs n p = cases_changed cs _ (test_case (kept_tests m true true past cs) (kept_statements past cs) cs n (kept_total m true true past cs) (kept_cost past cs))

    value_bound : (x : Option Value) (cs : Cases) → is_several cs ≡ true → BoundCases cs (select_value m x cs)
    value_bound None cs n = cases_same cs
    value_bound (Some v) cs n = entry_bound (entry_of m v cs) cs n (spare v cs)

    pub select_bound : (e : Expression) (cs : Cases) → BoundCases cs (drop_unreachable_switch_cases m e cs)
    select_bound e cs = go (is_several cs) (is_none (let_names_cases cs)) refl
      where
        go : (a b : Bool) → is_several cs ≡ a → BoundCases cs (cond (a && b) (select_value m (value_of m (parts_of e)) cs) (unchanged cs))
        go false b n = cases_same cs
        go true false n = cases_same cs
        go true true n = value_bound (value_of m (parts_of e)) cs n
