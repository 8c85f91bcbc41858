-- Weight and the number of words as one measure: a word counts 1, and what weight adds to it counts `unit`, which is 1 for
-- weight and 0 for words. Stubs never measure more than what they stand for.
use Rattle.std.proofs.Common.{◌≡◌, ℕ, zero, suc, ◌+◌, ◌≤◌, Bool, true, false, cond, List, [], ◌∷◌, ◌++◌, map, length, sym, refl, subst, arith}
use Rattle.host.specs.Model.{Model}
use Rattle.words.specs.Tree.{Expression, expression, Declarator, Name, NameInit, Start, no_start, start_expression, start_var, start_let}
use Rattle.words.specs.Tree.{Statement, Empty, Break, Continue, Block, Expr, Throw, Var, If, IfElse, For, While, Do, Switch, Label, BreakTo, ContinueTo, Return, TryCatch, TryFinally, TryBoth}
use Rattle.words.specs.Tree.{Statements, none, some, Let, Cases, no_case, case}
use Rattle.scan.specs.Weight.{weight_expression, test_weight, weight_optional, weight_declarators, weight_catch}
use Rattle.meaning.specs.Run.{bound_names}
use Rattle.meaning.specs.Fold.KeepVar.{keep_start, keep_var, keep_list, keep_cases}
use Rattle.meaning.specs.Fold.IsTerminated.{all_bare, is_bare_var}
use Rattle.meaning.specs.Fold.If.{not_granted}

pub length_append : (xs ys : List ℕ) → length (xs ++ ys) ≡ length xs + length ys
length_append [] ys = omega arith
length_append (x ∷ xs) ys = let p : length (xs ++ ys) ≡ length xs + length ys = length_append xs ys in omega arith

bound_least : (ds : List Declarator) → length (bound_names ds) ≤ weight_declarators ds
bound_least [] = omega arith
bound_least (Name x ∷ ds) = let p : length (bound_names ds) ≤ weight_declarators ds = bound_least ds in omega arith
bound_least (NameInit x e ∷ ds) = let p : length (bound_names ds) ≤ weight_declarators ds = bound_least ds in omega arith

one_expression : (e : Expression) → 1 ≤ weight_expression e
one_expression (expression x []) = omega arith
one_expression (expression x (y ∷ ys)) = omega arith

-- an initializer counts
bound_less : (ds : List Declarator) → all_bare ds ≡ false → length (bound_names ds) + 1 ≤ weight_declarators ds
bound_less [] q = absurd (let y : ◌≡◌ {A = ℕ} 0 1 = cc in omega arith)
bound_less (Name x ∷ ds) q = let p : length (bound_names ds) + 1 ≤ weight_declarators ds = bound_less ds q in omega arith
bound_less (NameInit x e ∷ ds) q = let p : length (bound_names ds) ≤ weight_declarators ds = bound_least ds in let r : 1 ≤ weight_expression e = one_expression e in omega arith

pub names_weight : (xs : List ℕ) → weight_declarators (map Name xs) ≡ length xs
names_weight [] = refl
names_weight (x ∷ xs) = let p : weight_declarators (map Name xs) ≡ length xs = names_weight xs in omega arith

pub append_weight : (ds : List Declarator) (xs : List ℕ) → weight_declarators (ds ++ map Name xs) ≡ weight_declarators ds + length xs
append_weight [] xs = let p : weight_declarators (map Name xs) ≡ length xs = names_weight xs in omega arith
append_weight (d ∷ ds) xs = let p : weight_declarators (ds ++ map Name xs) ≡ weight_declarators ds + length xs = append_weight ds xs in omega arith

pub granted_length : (m : Model) (xs : List ℕ) → length (not_granted m xs) ≤ length xs
granted_length m [] = omega arith
granted_length m (x ∷ xs) = go (m.granted? x) (granted_length m xs)
  where
    go : (b : Bool) → length (not_granted m xs) ≤ length xs → length (cond b (not_granted m xs) (x ∷ not_granted m xs)) ≤ suc (length xs)
    go true p = omega arith
    go false p = omega arith

pub record Scale : Type 0 where
  pub unit : ℕ
  pub small : unit ≤ 1
  pub scaled : ℕ → ℕ
  pub at_zero : scaled 0 ≡ 0
  pub at_one : scaled 1 ≡ unit
  pub adds : (n k : ℕ) → scaled (n + k) ≡ scaled n + scaled k

module _ (z : Scale) where
  -- a statement's own word
  abbrev pub own : ℕ
  own = 1 + z.unit

  abbrev pub measure_start : Start → ℕ
  measure_start no_start = 0
  measure_start (start_expression e) = weight_expression e
  measure_start (start_var d ds) = own + weight_declarators (d ∷ ds)
  measure_start (start_let d ds) = own + weight_declarators (d ∷ ds)

  abbrev mutual
    pub measure : Statement → ℕ
    measure Empty = 1
    measure Break = own
    measure Continue = own
    measure (Block ss) = own + measure_list ss
    measure (Expr e) = own + weight_expression e
    measure (Throw e) = own + weight_expression e
    measure (Var d ds) = own + weight_declarators (d ∷ ds)
    measure (If e s) = own + z.scaled (test_weight e) + (weight_expression e + measure s)
    measure (IfElse e s t) = own + z.scaled (test_weight e) + (weight_expression e + (measure s + measure t))
    measure (For i t u s) = own + (measure_start i + (weight_optional t + (weight_optional u + measure s)))
    measure (While e s) = own + (weight_expression e + measure s)
    measure (Do s e) = own + (measure s + weight_expression e)
    measure (Switch e cs) = own + z.unit + (weight_expression e + measure_cases cs)
    measure (Label l s) = own + measure s
    measure (BreakTo l) = own
    measure (ContinueTo l) = own
    measure (Return e) = own + weight_optional e
    measure (TryCatch b x c) = own + (1 + measure_list b + (weight_catch x + measure_list c))
    measure (TryFinally b f) = own + (1 + measure_list b + (1 + measure_list f))
    measure (TryBoth b x c f) = own + (1 + measure_list b + (weight_catch x + measure_list c + (1 + measure_list f)))

    pub measure_list : Statements → ℕ
    measure_list none = 0
    measure_list (some s ss) = measure s + measure_list ss
    measure_list (Let d ds ss) = own + weight_declarators (d ∷ ds) + measure_list ss

    pub measure_cases : Cases → ℕ
    measure_cases no_case = 0
    measure_cases (case t ss cs) = own + z.unit + weight_optional t + measure_list ss + measure_cases cs

  pub at_least_one : (s : Statement) → 1 ≤ measure s
  at_least_one Empty = omega arith
  at_least_one Break = omega arith
  at_least_one Continue = omega arith
  at_least_one (Block ss) = omega arith
  at_least_one (Expr e) = omega arith
  at_least_one (Throw e) = omega arith
  at_least_one (Var d ds) = omega arith
  at_least_one (If e s) = omega arith
  at_least_one (IfElse e s t) = omega arith
  at_least_one (For i t u s) = omega arith
  at_least_one (While e s) = omega arith
  at_least_one (Do s e) = omega arith
  at_least_one (Switch e cs) = omega arith
  at_least_one (Label l s) = omega arith
  at_least_one (BreakTo l) = omega arith
  at_least_one (ContinueTo l) = omega arith
  at_least_one (Return e) = omega arith
  at_least_one (TryCatch b x c) = omega arith
  at_least_one (TryFinally b f) = omega arith
  at_least_one (TryBoth b x c f) = omega arith

  pub expression_one : (e : Expression) → 1 ≤ weight_expression e
  expression_one (expression x []) = omega arith
  expression_one (expression x (y ∷ ys)) = omega arith

  -- what a stub of so many names measures
  abbrev pub stub_cost : ℕ → ℕ
  stub_cost zero = 0
  stub_cost (suc n) = own + suc n

  pub cost_least : (n : ℕ) → n ≤ stub_cost n
  cost_least zero = omega arith
  cost_least (suc n) = omega arith

  pub cost_most : (n : ℕ) → stub_cost n ≤ own + n
  cost_most zero = omega arith
  cost_most (suc n) = omega arith

  pub cost_more : (n k : ℕ) → n ≤ k → stub_cost n ≤ stub_cost k
  cost_more zero k p = omega arith
  cost_more (suc n) zero p = absurd (omega arith)
  cost_more (suc n) (suc k) p = omega arith

  -- two stubs measure no less than one of the names of both, and more by the unit where neither part is empty
  pub cost_both : (n k x y : ℕ) → stub_cost n ≤ x → stub_cost k ≤ y → stub_cost (n + k) ≤ x + y
  cost_both zero k x y p q = let e : 0 + k ≡ k = omega arith in let P : ℕ → Type 0 = λ j. stub_cost j ≤ x + y in subst P (sym e) (omega arith)
  cost_both (suc n) k x y p q = let r : stub_cost (suc n + k) ≤ own + (suc n + k) = cost_most (suc n + k) in let s : k ≤ stub_cost k = cost_least k in omega arith

  pub cost_apart : (n k x y : ℕ) → stub_cost n ≤ x → stub_cost k ≤ y → 1 ≤ x → 1 ≤ y → stub_cost (n + k) + z.unit ≤ x + y
  cost_apart zero k x y p q a b = let u : z.unit ≤ 1 = z.small in let e : 0 + k ≡ k = omega arith in let P : ℕ → Type 0 = λ j. stub_cost j + z.unit ≤ x + y in subst P (sym e) (omega arith)
  cost_apart (suc n) zero x y p q a b = let u : z.unit ≤ 1 = z.small in let e : suc n + 0 ≡ suc n = omega arith in let P : ℕ → Type 0 = λ j. stub_cost j + z.unit ≤ x + y in subst P (sym e) (omega arith)
  cost_apart (suc n) (suc k) x y p q a b = let u : z.unit ≤ 1 = z.small in let r : stub_cost (suc n + suc k) ≤ own + (suc n + suc k) = cost_most (suc n + suc k) in omega arith

  pub names_both : (xs ys : List ℕ) (a b : ℕ) → stub_cost (length xs) ≤ a → stub_cost (length ys) ≤ b → stub_cost (length (xs ++ ys)) ≤ a + b
  names_both xs ys a b p q = let P : ℕ → Type 0 = λ j. stub_cost j ≤ a + b in subst P (sym (length_append xs ys)) (cost_both (length xs) (length ys) a b p q)

  pub more : (n k j : ℕ) → stub_cost n ≤ k → k ≤ j → stub_cost n ≤ j
  more n k j p q = omega arith

  less : (n k j : ℕ) → stub_cost n ≤ k → k + own ≤ j → stub_cost n + z.unit ≤ j
  less n k j p q = omega arith

  start_cost : (i : Start) → stub_cost (length (keep_start i)) ≤ measure_start i
  start_cost no_start = omega arith
  start_cost (start_expression e) = omega arith
  start_cost (start_var d ds) = let p : length (bound_names (d ∷ ds)) ≤ weight_declarators (d ∷ ds) = bound_least (d ∷ ds) in omega arith
  start_cost (start_let d ds) = omega arith

  -- the names of a statement, as a stub, measure no more than it
  mutual
    unfolding keep_var

    pub names_cost : (s : Statement) → stub_cost (length (keep_var s)) ≤ measure s
    names_cost Empty = omega arith
    names_cost Break = omega arith
    names_cost Continue = omega arith
    names_cost (Block ss) = more _ (measure_list ss) _ (list_cost ss) (omega arith)
    names_cost (Expr e) = omega arith
    names_cost (Throw e) = omega arith
    names_cost (Var d ds) = let p : length (bound_names (d ∷ ds)) ≤ weight_declarators (d ∷ ds) = bound_least (d ∷ ds) in omega arith
    names_cost (If e s) = more _ (measure s) _ (names_cost s) (omega arith)
    names_cost (IfElse e s t) = more _ (measure s + measure t) _ (names_both (keep_var s) (keep_var t) (measure s) (measure t) (names_cost s) (names_cost t)) (omega arith)
    names_cost (For i t u s) = more _ (measure_start i + measure s) _ (names_both (keep_start i) (keep_var s) (measure_start i) (measure s) (start_cost i) (names_cost s)) (omega arith)
    names_cost (While e s) = more _ (measure s) _ (names_cost s) (omega arith)
    names_cost (Do s e) = more _ (measure s) _ (names_cost s) (omega arith)
    names_cost (Switch e cs) = more _ (measure_cases cs) _ (cases_cost cs) (omega arith)
    names_cost (Label l s) = more _ (measure s) _ (names_cost s) (omega arith)
    names_cost (BreakTo l) = omega arith
    names_cost (ContinueTo l) = omega arith
    names_cost (Return e) = omega arith
    names_cost (TryCatch b x c) = more _ (measure_list b + measure_list c) _ (names_both (keep_list b) (keep_list c) (measure_list b) (measure_list c) (list_cost b) (list_cost c)) (omega arith)
    names_cost (TryFinally b f) = more _ (measure_list b + measure_list f) _ (names_both (keep_list b) (keep_list f) (measure_list b) (measure_list f) (list_cost b) (list_cost f)) (omega arith)
    names_cost (TryBoth b x c f) = more _ (measure_list b + (measure_list c + measure_list f)) _ (names_both (keep_list b) (keep_list c ++ keep_list f) (measure_list b) (measure_list c + measure_list f) (list_cost b) (names_both (keep_list c) (keep_list f) (measure_list c) (measure_list f) (list_cost c) (list_cost f))) (omega arith)

    pub list_cost : (ss : Statements) → stub_cost (length (keep_list ss)) ≤ measure_list ss
    list_cost none = omega arith
    list_cost (some s ss) = names_both (keep_var s) (keep_list ss) (measure s) (measure_list ss) (names_cost s) (list_cost ss)
    list_cost (Let d ds ss) = more _ (measure_list ss) _ (list_cost ss) (omega arith)

    pub cases_cost : (cs : Cases) → stub_cost (length (keep_cases cs)) ≤ measure_cases cs
    cases_cost no_case = omega arith
    cases_cost (case t ss cs) = more _ (measure_list ss + measure_cases cs) _ (names_both (keep_list ss) (keep_cases cs) (measure_list ss) (measure_cases cs) (list_cost ss) (cases_cost cs)) (omega arith)

  -- and less by the unit where it is no stub itself
  pub names_less : (s : Statement) → is_bare_var s ≡ false → stub_cost (length (keep_var s)) + z.unit ≤ measure s
  unfolding keep_var is_bare_var
  names_less Empty q = let u : z.unit ≤ 1 = z.small in omega arith
  names_less Break q = let u : z.unit ≤ 1 = z.small in omega arith
  names_less Continue q = let u : z.unit ≤ 1 = z.small in omega arith
  names_less (Block ss) q = less (length (keep_list ss)) (measure_list ss) _ (list_cost ss) (omega arith)
  names_less (Expr e) q = let u : z.unit ≤ 1 = z.small in omega arith
  names_less (Throw e) q = let u : z.unit ≤ 1 = z.small in omega arith
  names_less (Var d ds) q = let u : z.unit ≤ 1 = z.small in let p : length (bound_names (d ∷ ds)) + 1 ≤ weight_declarators (d ∷ ds) = bound_less (d ∷ ds) q in omega arith
  names_less (If e s) q = less (length (keep_var s)) (measure s) _ (names_cost s) (omega arith)
  names_less (IfElse e s t) q = less (length (keep_var s ++ keep_var t)) (measure s + measure t) _ (names_both (keep_var s) (keep_var t) (measure s) (measure t) (names_cost s) (names_cost t)) (omega arith)
  names_less (For i t u s) q = less (length (keep_start i ++ keep_var s)) (measure_start i + measure s) _ (names_both (keep_start i) (keep_var s) (measure_start i) (measure s) (start_cost i) (names_cost s)) (omega arith)
  names_less (While e s) q = less (length (keep_var s)) (measure s) _ (names_cost s) (omega arith)
  names_less (Do s e) q = less (length (keep_var s)) (measure s) _ (names_cost s) (omega arith)
  names_less (Switch e cs) q = less (length (keep_cases cs)) (measure_cases cs) _ (cases_cost cs) (omega arith)
  names_less (Label l s) q = less (length (keep_var s)) (measure s) _ (names_cost s) (omega arith)
  names_less (BreakTo l) q = let u : z.unit ≤ 1 = z.small in omega arith
  names_less (ContinueTo l) q = let u : z.unit ≤ 1 = z.small in omega arith
  names_less (Return e) q = let u : z.unit ≤ 1 = z.small in omega arith
  names_less (TryCatch b x c) q = less (length (keep_list b ++ keep_list c)) (measure_list b + measure_list c) _ (names_both (keep_list b) (keep_list c) (measure_list b) (measure_list c) (list_cost b) (list_cost c)) (omega arith)
  names_less (TryFinally b f) q = less (length (keep_list b ++ keep_list f)) (measure_list b + measure_list f) _ (names_both (keep_list b) (keep_list f) (measure_list b) (measure_list f) (list_cost b) (list_cost f)) (omega arith)
  names_less (TryBoth b x c f) q = less (length (keep_list b ++ (keep_list c ++ keep_list f))) (measure_list b + (measure_list c + measure_list f)) _ (names_both (keep_list b) (keep_list c ++ keep_list f) (measure_list b) (measure_list c + measure_list f) (list_cost b) (names_both (keep_list c) (keep_list f) (measure_list c) (measure_list f) (list_cost c) (list_cost f))) (omega arith)
