-- The two measures: weight, and the number of words.
use Rattle.std.proofs.Common.{◌≡◌, ℕ, suc, ◌+◌, List, [], ◌∷◌, ◌++◌, map, length, Some, None, Option, refl, ap, arith}
use Rattle.words.specs.Tree.{Expression, expression, Declarator, Name, NameInit, Start, no_start, start_expression, start_var, start_let}
use Rattle.words.specs.Tree.{Statement, Empty, Break, Continue, Block, Expr, Throw, Var, If, IfElse, For, While, Do, Switch, Label, BreakTo, ContinueTo, Return, TryCatch, TryFinally, TryBoth}
use Rattle.words.specs.Tree.{Statements, none, some, Let, Cases, no_case, case}
use Rattle.words.specs.declared.word.Kind.TheVariants as kind
use Rattle.words.specs.Words.{word}
use Rattle.words.specs.Encode.{encode_expression, encode_optional, encode_declarators, encode_start, encode_let, encode, encode_list, encode_cases, catch_head, case_head, count}
use Rattle.scan.specs.Weight.{weight_expression, test_weight, weight_optional, weight_declarators, weight_start, weight_catch, weight, weight_list, weight_cases}
use Rattle.meaning.proofs.Measure.{Scale, measure_start, measure, measure_list, measure_cases}

abbrev pub by_weight : Scale
by_weight = record { unit = 1; small = omega arith; scaled = λ n. n; at_zero = refl; at_one = refl; adds = λ n k. refl }

abbrev pub by_words : Scale
by_words = record { unit = 0; small = omega arith; scaled = λ n. 0; at_zero = refl; at_one = refl; adds = λ n k. refl }

start_weight_is : (i : Start) → measure_start by_weight i ≡ weight_start i
start_weight_is no_start = refl
start_weight_is (start_expression e) = refl
start_weight_is (start_var d ds) = refl
start_weight_is (start_let d ds) = refl

mutual
  pub weight_is : (s : Statement) → measure by_weight s ≡ weight s
  weight_is Empty = refl
  weight_is Break = refl
  weight_is Continue = refl
  weight_is (Block ss) = ap (λ x. 2 + x) (weight_list_is ss)
  weight_is (Expr e) = refl
  weight_is (Throw e) = refl
  weight_is (Var d ds) = refl
  weight_is (If e s) = ap (λ x. 2 + test_weight e + (weight_expression e + x)) (weight_is s)
  weight_is (IfElse e s t) = λ i. 2 + test_weight e + (weight_expression e + (weight_is s i + weight_is t i))
  weight_is (For j t u s) = λ i. 2 + (start_weight_is j i + (weight_optional t + (weight_optional u + weight_is s i)))
  weight_is (While e s) = ap (λ x. 2 + (weight_expression e + x)) (weight_is s)
  weight_is (Do s e) = ap (λ x. 2 + (x + weight_expression e)) (weight_is s)
  weight_is (Switch e cs) = ap (λ x. 3 + (weight_expression e + x)) (weight_cases_is cs)
  weight_is (Label l s) = ap (λ x. 2 + x) (weight_is s)
  weight_is (BreakTo l) = refl
  weight_is (ContinueTo l) = refl
  weight_is (Return e) = refl
  weight_is (TryCatch b x c) = λ i. 2 + (1 + weight_list_is b i + (weight_catch x + weight_list_is c i))
  weight_is (TryFinally b f) = λ i. 2 + (1 + weight_list_is b i + (1 + weight_list_is f i))
  weight_is (TryBoth b x c f) = λ i. 2 + (1 + weight_list_is b i + (weight_catch x + weight_list_is c i + (1 + weight_list_is f i)))

  pub weight_list_is : (ss : Statements) → measure_list by_weight ss ≡ weight_list ss
  weight_list_is none = refl
  weight_list_is (some s ss) = λ i. weight_is s i + weight_list_is ss i
  weight_list_is (Let d ds ss) = ap (λ x. 2 + weight_declarators (d ∷ ds) + x) (weight_list_is ss)

  pub weight_cases_is : (cs : Cases) → measure_cases by_weight cs ≡ weight_cases cs
  weight_cases_is no_case = refl
  weight_cases_is (case t ss cs) = λ i. 3 + weight_optional t + weight_list_is ss i + weight_cases_is cs i

length_join : {A : Type 0} (xs ys : List A) → length (xs ++ ys) ≡ length xs + length ys
length_join [] ys = omega arith
length_join (x ∷ xs) ys = let p : length (xs ++ ys) ≡ length xs + length ys = length_join xs ys in omega arith

length_numbers : (xs : List ℕ) → length (map (word kind.Expression) xs) ≡ length xs
length_numbers [] = refl
length_numbers (x ∷ xs) = ap suc (length_numbers xs)

expression_is : (e : Expression) → length (encode_expression e) ≡ weight_expression e
expression_is (expression x []) = refl
expression_is (expression x (y ∷ ys)) = let p : length (map (word kind.Expression) ys) ≡ length ys = length_numbers ys in omega arith

optional_is : (e : Option Expression) → length (encode_optional e) ≡ weight_optional e
optional_is None = refl
optional_is (Some e) = expression_is e

declarators_is : (ds : List Declarator) → length (encode_declarators ds) ≡ weight_declarators ds
declarators_is [] = refl
declarators_is (Name x ∷ ds) = let p : length (encode_declarators ds) ≡ weight_declarators ds = declarators_is ds in omega arith
declarators_is (NameInit x e ∷ ds) =
    let p : length (encode_declarators ds) ≡ weight_declarators ds = declarators_is ds in
    let q : length (encode_expression e) ≡ weight_expression e = expression_is e in
    let r : length (encode_expression e ++ encode_declarators ds) ≡ length (encode_expression e) + length (encode_declarators ds) = length_join (encode_expression e) (encode_declarators ds) in
    omega arith

start_is : (i : Start) → length (encode_start i) ≡ measure_start by_words i
start_is no_start = refl
start_is (start_expression e) = expression_is e
start_is (start_var d ds) = let p : length (encode_declarators (d ∷ ds)) ≡ weight_declarators (d ∷ ds) = declarators_is (d ∷ ds) in omega arith
start_is (start_let d ds) = let p : length (encode_declarators (d ∷ ds)) ≡ weight_declarators (d ∷ ds) = declarators_is (d ∷ ds) in omega arith

catch_is : (x : Option ℕ) (n : ℕ) → length (catch_head x n) ≡ weight_catch x
catch_is None n = refl
catch_is (Some x) n = refl

case_is : (t : Option Expression) (n : ℕ) → length (case_head t n) ≡ 1 + weight_optional t
case_is None n = refl
case_is (Some e) n = let p : length (encode_expression e) ≡ weight_expression e = expression_is e in omega arith

mutual
  pub words_is : (s : Statement) → measure by_words s ≡ length (encode s)
  words_is Empty = refl
  words_is Break = refl
  words_is Continue = refl
  words_is (Block ss) = let p : measure_list by_words (ss) ≡ length (encode_list (ss)) = words_list_is (ss) in omega arith
  words_is (Expr e) = let p : length (encode_expression (e)) ≡ weight_expression (e) = expression_is (e) in omega arith
  words_is (Throw e) = let p : length (encode_expression (e)) ≡ weight_expression (e) = expression_is (e) in omega arith
  words_is (Var d ds) = let p : length (encode_declarators (d ∷ ds)) ≡ weight_declarators (d ∷ ds) = declarators_is (d ∷ ds) in omega arith
  words_is (If e s) = let p : length (encode_expression (e)) ≡ weight_expression (e) = expression_is (e) in let q : measure by_words (s) ≡ length (encode (s)) = words_is (s) in let a : length ((encode_expression e) ++ (encode s)) ≡ length (encode_expression e) + length (encode s) = length_join (encode_expression e) (encode s) in omega arith
  words_is (IfElse e s t) = let p : length (encode_expression (e)) ≡ weight_expression (e) = expression_is (e) in let q : measure by_words (s) ≡ length (encode (s)) = words_is (s) in let r : measure by_words (t) ≡ length (encode (t)) = words_is (t) in let a : length ((encode_expression e) ++ (encode s ++ encode t)) ≡ length (encode_expression e) + length (encode s ++ encode t) = length_join (encode_expression e) (encode s ++ encode t) in let b : length ((encode s) ++ (encode t)) ≡ length (encode s) + length (encode t) = length_join (encode s) (encode t) in omega arith
  words_is (For i t u s) = let k : length (encode_start i) ≡ measure_start by_words i = start_is i in let p : length (encode_optional (t)) ≡ weight_optional (t) = optional_is (t) in let q : length (encode_optional (u)) ≡ weight_optional (u) = optional_is (u) in let r : measure by_words (s) ≡ length (encode (s)) = words_is (s) in let a : length ((encode_start i) ++ (encode_optional t ++ (encode_optional u ++ encode s))) ≡ length (encode_start i) + length (encode_optional t ++ (encode_optional u ++ encode s)) = length_join (encode_start i) (encode_optional t ++ (encode_optional u ++ encode s)) in let b : length ((encode_optional t) ++ (encode_optional u ++ encode s)) ≡ length (encode_optional t) + length (encode_optional u ++ encode s) = length_join (encode_optional t) (encode_optional u ++ encode s) in let c : length ((encode_optional u) ++ (encode s)) ≡ length (encode_optional u) + length (encode s) = length_join (encode_optional u) (encode s) in omega arith
  words_is (While e s) = let p : length (encode_expression (e)) ≡ weight_expression (e) = expression_is (e) in let q : measure by_words (s) ≡ length (encode (s)) = words_is (s) in let a : length ((encode_expression e) ++ (encode s)) ≡ length (encode_expression e) + length (encode s) = length_join (encode_expression e) (encode s) in omega arith
  words_is (Do s e) = let p : length (encode_expression (e)) ≡ weight_expression (e) = expression_is (e) in let q : measure by_words (s) ≡ length (encode (s)) = words_is (s) in let a : length ((encode s) ++ (encode_expression e)) ≡ length (encode s) + length (encode_expression e) = length_join (encode s) (encode_expression e) in omega arith
  words_is (Switch e cs) = let p : length (encode_expression (e)) ≡ weight_expression (e) = expression_is (e) in let q : measure_cases by_words (cs) ≡ length (encode_cases (cs)) = words_cases_is (cs) in let a : length ((encode_expression e) ++ (encode_cases cs)) ≡ length (encode_expression e) + length (encode_cases cs) = length_join (encode_expression e) (encode_cases cs) in omega arith
  words_is (Label l s) = let q : measure by_words (s) ≡ length (encode (s)) = words_is (s) in omega arith
  words_is (BreakTo l) = refl
  words_is (ContinueTo l) = refl
  words_is (Return e) = let p : length (encode_optional (e)) ≡ weight_optional (e) = optional_is (e) in omega arith
  words_is (TryCatch b x c) = let p : measure_list by_words (b) ≡ length (encode_list (b)) = words_list_is (b) in let q : measure_list by_words (c) ≡ length (encode_list (c)) = words_list_is (c) in let k : length (catch_head (x) (count c)) ≡ weight_catch (x) = catch_is (x) (count c) in let a : length ((word kind.Body (count b) ∷ encode_list b) ++ (catch_head x (count c) ++ encode_list c)) ≡ length (word kind.Body (count b) ∷ encode_list b) + length (catch_head x (count c) ++ encode_list c) = length_join (word kind.Body (count b) ∷ encode_list b) (catch_head x (count c) ++ encode_list c) in let d : length ((catch_head x (count c)) ++ (encode_list c)) ≡ length (catch_head x (count c)) + length (encode_list c) = length_join (catch_head x (count c)) (encode_list c) in omega arith
  words_is (TryFinally b f) = let p : measure_list by_words (b) ≡ length (encode_list (b)) = words_list_is (b) in let q : measure_list by_words (f) ≡ length (encode_list (f)) = words_list_is (f) in let a : length ((word kind.Body (count b) ∷ encode_list b) ++ (word kind.Body (count f) ∷ encode_list f)) ≡ length (word kind.Body (count b) ∷ encode_list b) + length (word kind.Body (count f) ∷ encode_list f) = length_join (word kind.Body (count b) ∷ encode_list b) (word kind.Body (count f) ∷ encode_list f) in omega arith
  words_is (TryBoth b x c f) = let p : measure_list by_words (b) ≡ length (encode_list (b)) = words_list_is (b) in let q : measure_list by_words (c) ≡ length (encode_list (c)) = words_list_is (c) in let r : measure_list by_words (f) ≡ length (encode_list (f)) = words_list_is (f) in let k : length (catch_head (x) (count c)) ≡ weight_catch (x) = catch_is (x) (count c) in let a : length ((word kind.Body (count b) ∷ encode_list b) ++ ((catch_head x (count c) ++ encode_list c) ++ (word kind.Body (count f) ∷ encode_list f))) ≡ length (word kind.Body (count b) ∷ encode_list b) + length ((catch_head x (count c) ++ encode_list c) ++ (word kind.Body (count f) ∷ encode_list f)) = length_join (word kind.Body (count b) ∷ encode_list b) ((catch_head x (count c) ++ encode_list c) ++ (word kind.Body (count f) ∷ encode_list f)) in let e : length ((catch_head x (count c) ++ encode_list c) ++ (word kind.Body (count f) ∷ encode_list f)) ≡ length (catch_head x (count c) ++ encode_list c) + length (word kind.Body (count f) ∷ encode_list f) = length_join (catch_head x (count c) ++ encode_list c) (word kind.Body (count f) ∷ encode_list f) in let d : length ((catch_head x (count c)) ++ (encode_list c)) ≡ length (catch_head x (count c)) + length (encode_list c) = length_join (catch_head x (count c)) (encode_list c) in omega arith

  pub words_list_is : (ss : Statements) → measure_list by_words ss ≡ length (encode_list ss)
  words_list_is none = refl
  words_list_is (some s ss) = let p : measure by_words (s) ≡ length (encode (s)) = words_is (s) in let q : measure_list by_words (ss) ≡ length (encode_list (ss)) = words_list_is (ss) in let a : length ((encode s) ++ (encode_list ss)) ≡ length (encode s) + length (encode_list ss) = length_join (encode s) (encode_list ss) in omega arith
  words_list_is (Let d ds ss) = let q : measure_list by_words (ss) ≡ length (encode_list (ss)) = words_list_is (ss) in let p : length (encode_declarators (d ∷ ds)) ≡ weight_declarators (d ∷ ds) = declarators_is (d ∷ ds) in let a : length ((encode_let d ds) ++ (encode_list ss)) ≡ length (encode_let d ds) + length (encode_list ss) = length_join (encode_let d ds) (encode_list ss) in omega arith

  pub words_cases_is : (cs : Cases) → measure_cases by_words cs ≡ length (encode_cases cs)
  words_cases_is no_case = refl
  words_cases_is (case t ss cs) = let p : measure_list by_words (ss) ≡ length (encode_list (ss)) = words_list_is (ss) in let q : measure_cases by_words (cs) ≡ length (encode_cases (cs)) = words_cases_is (cs) in let k : length (case_head t (count ss)) ≡ 1 + weight_optional t = case_is t (count ss) in let a : length ((case_head t (count ss) ++ encode_list ss) ++ (encode_cases cs)) ≡ length (case_head t (count ss) ++ encode_list ss) + length (encode_cases cs) = length_join (case_head t (count ss) ++ encode_list ss) (encode_cases cs) in let b : length ((case_head t (count ss)) ++ (encode_list ss)) ≡ length (case_head t (count ss)) + length (encode_list ss) = length_join (case_head t (count ss)) (encode_list ss) in omega arith
