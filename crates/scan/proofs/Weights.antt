-- The weight of a tree is the weight of its words.
use Rattle.std.proofs.Common.{◌≡◌, ℕ, ◌+◌, false, cond, List, [], ◌∷◌, ◌++◌, map, length, Some, None, Option, refl, ap, ◌∙◌, append_assoc, append-nil, arith}
use Rattle.words.specs.declared.word.Kind.TheVariants as kind
use Rattle.words.specs.declared.word.Word.{Word}
use Rattle.words.specs.Words.{word}
use Rattle.words.specs.Words.{from_to}
use Rattle.words.specs.Tree.{Expression, expression, Declarator, Name, NameInit, Start, no_start, start_expression, start_var, start_let}
use Rattle.words.specs.Tree.{Statement, Empty, Break, Continue, Block, Expr, Throw, Var, If, IfElse, For, While, Do, Switch, Label, BreakTo, ContinueTo, Return, TryCatch, TryFinally, TryBoth}
use Rattle.words.specs.Tree.{Statements, none, some, Let, Cases, no_case, case}
use Rattle.words.specs.Encode.{encode_expression, encode_optional, encode_declarator, encode_declarators, encode_start, count, catch_head, case_head, encode, encode_list, encode_cases, encode_body}
use Rattle.scan.specs.Weight.{one_case, statement, weight_expression, test_weight, weight_optional, weight_declarator, weight_declarators, weight_start, weight_catch, weight, weight_list, weight_cases, weight_body, weight_kind, test_words, weight_words}

-- the words weigh n, whatever comes after them
record Weighs (ws : List Word) (n : ℕ) : Type 0 where
  weighs : (rest : List Word) → weight_words (ws ++ rest) ≡ n + weight_words rest

weighs_none : Weighs [] 0
weighs_none = record { weighs = λ rest. omega arith }

weighs_join : {m n : ℕ} {xs ys : List Word} → Weighs xs m → Weighs ys n → Weighs (xs ++ ys) (m + n)
weighs_join {m} {n} {xs} {ys} p q = record {
  weighs = λ rest.
      let e = ap weight_words (append_assoc xs ys rest) in
      let a = p.weighs (ys ++ rest) in
      let b = q.weighs rest in
      omega arith;
}

weighs_as : {m n : ℕ} {ws : List Word} → Weighs ws m → m ≡ n → Weighs ws n
weighs_as p e = record { weighs = λ rest. let a = p.weighs rest in omega arith }

-- a word that is no If
weighs_word : (w : Word) {n : ℕ} {ws : List Word} → from_to kind.If kind.If w.kind ≡ false → Weighs ws n → Weighs (w ∷ ws) (weight_kind w.kind + n)
weighs_word w {ws = ws} h p = record {
  weighs = λ rest.
      let a : cond (from_to kind.If kind.If w.kind) (test_words (ws ++ rest)) 0 ≡ 0 = ap (λ b. cond b (test_words (ws ++ rest)) 0) h in
      let b = p.weighs rest in
      omega arith;
}

weighs_numbers : (xs : List ℕ) → Weighs (map (word kind.Expression) xs) (length xs)
weighs_numbers [] = weighs_none
weighs_numbers (x ∷ xs) = weighs_as (weighs_word _ refl (weighs_numbers xs)) (omega arith)

weighs_expression : (e : Expression) → Weighs (encode_expression e) (weight_expression e)
weighs_expression (expression x []) = weighs_word _ refl weighs_none
weighs_expression (expression x (y ∷ ys)) = weighs_word _ refl (weighs_numbers (x ∷ y ∷ ys))

-- an If looks at its test's first word
if_test : (e : Expression) (rest : List Word) → test_words (encode_expression e ++ rest) ≡ test_weight e
if_test (expression x []) rest = refl
if_test (expression x (y ∷ ys)) rest = refl

weighs_if : (k : ℕ) (e : Expression) {n : ℕ} {ws : List Word} → Weighs ws n → Weighs (word kind.If k ∷ encode_expression e ++ ws) (statement + test_weight e + (weight_expression e + n))
weighs_if k e {ws = ws} p = record {
  weighs = λ rest.
      let t : test_words ((encode_expression e ++ ws) ++ rest) ≡ test_weight e = ap test_words (append_assoc (encode_expression e) ws rest) ∙ if_test e (ws ++ rest) in
      let a = (weighs_join (weighs_expression e) p).weighs rest in
      omega arith;
}

weighs_optional : (e : Option Expression) → Weighs (encode_optional e) (weight_optional e)
weighs_optional None = weighs_none
weighs_optional (Some e) = weighs_expression e

weighs_declarator : (d : Declarator) → Weighs (encode_declarator d) (weight_declarator d)
weighs_declarator (Name x) = weighs_word _ refl weighs_none
weighs_declarator (NameInit x e) = weighs_word _ refl (weighs_expression e)

weighs_declarators : (ds : List Declarator) → Weighs (encode_declarators ds) (weight_declarators ds)
weighs_declarators [] = weighs_none
weighs_declarators (d ∷ ds) = weighs_join (weighs_declarator d) (weighs_declarators ds)

weighs_start : (i : Start) → Weighs (encode_start i) (weight_start i)
weighs_start no_start = weighs_none
weighs_start (start_expression e) = weighs_expression e
weighs_start (start_var d ds) = weighs_word _ refl (weighs_declarators (d ∷ ds))
weighs_start (start_let d ds) = weighs_word _ refl (weighs_declarators (d ∷ ds))

weighs_catch : (x : Option ℕ) (n : ℕ) → Weighs (catch_head x n) (weight_catch x)
weighs_catch None n = weighs_word _ refl weighs_none
weighs_catch (Some x) n = weighs_word _ refl (weighs_word _ refl weighs_none)

weighs_case : (t : Option Expression) (n : ℕ) → Weighs (case_head t n) (one_case + weight_optional t)
weighs_case None n = weighs_word _ refl weighs_none
weighs_case (Some e) n = weighs_word _ refl (weighs_expression e)

mutual
  weighs_statement : (s : Statement) → Weighs (encode s) (weight s)
  weighs_statement Empty = weighs_word _ refl weighs_none
  weighs_statement Break = weighs_word _ refl weighs_none
  weighs_statement Continue = weighs_word _ refl weighs_none
  weighs_statement (Block ss) = weighs_word _ refl (weighs_list ss)
  weighs_statement (Expr e) = weighs_word _ refl (weighs_expression e)
  weighs_statement (Throw e) = weighs_word _ refl (weighs_expression e)
  weighs_statement (Var d ds) = weighs_word _ refl (weighs_declarators (d ∷ ds))
  weighs_statement (If e s) = weighs_if _ e (weighs_statement s)
  weighs_statement (IfElse e s t) = weighs_if _ e (weighs_join (weighs_statement s) (weighs_statement t))
  weighs_statement (For i t u s) = weighs_word _ refl (weighs_join (weighs_start i) (weighs_join (weighs_optional t) (weighs_join (weighs_optional u) (weighs_statement s))))
  weighs_statement (While e s) = weighs_word _ refl (weighs_join (weighs_expression e) (weighs_statement s))
  weighs_statement (Do s e) = weighs_word _ refl (weighs_join (weighs_statement s) (weighs_expression e))
  weighs_statement (Switch e cs) = weighs_word _ refl (weighs_join (weighs_expression e) (weighs_cases cs))
  weighs_statement (Label l s) = weighs_word _ refl (weighs_statement s)
  weighs_statement (BreakTo l) = weighs_word _ refl weighs_none
  weighs_statement (ContinueTo l) = weighs_word _ refl weighs_none
  weighs_statement (Return e) = weighs_word _ refl (weighs_optional e)
  weighs_statement (TryCatch b x c) = weighs_word _ refl (weighs_join (weighs_word _ refl (weighs_list b)) (weighs_join (weighs_catch x (count c)) (weighs_list c)))
  weighs_statement (TryFinally b f) = weighs_word _ refl (weighs_join (weighs_word _ refl (weighs_list b)) (weighs_word _ refl (weighs_list f)))
  weighs_statement (TryBoth b x c f) = weighs_word _ refl (weighs_join (weighs_word _ refl (weighs_list b)) (weighs_join (weighs_join (weighs_catch x (count c)) (weighs_list c)) (weighs_word _ refl (weighs_list f))))

  weighs_list : (ss : Statements) → Weighs (encode_list ss) (weight_list ss)
  weighs_list none = weighs_none
  weighs_list (some s ss) = weighs_join (weighs_statement s) (weighs_list ss)
  weighs_list (Let d ds ss) = weighs_join (weighs_word _ refl (weighs_declarators (d ∷ ds))) (weighs_list ss)

  weighs_cases : (cs : Cases) → Weighs (encode_cases cs) (weight_cases cs)
  weighs_cases no_case = weighs_none
  weighs_cases (case t ss cs) = weighs_join (weighs_join (weighs_case t (count ss)) (weighs_list ss)) (weighs_cases cs)

weight_whole : {ws : List Word} {n : ℕ} → Weighs ws n → weight_words ws ≡ n
weight_whole {ws} p = let e = ap weight_words (append-nil ws) in let a = p.weighs [] in omega arith

-- a script, and a statement alone
pub weight_of_body : (ss : Statements) → weight_words (encode_body ss) ≡ weight_body ss
weight_of_body ss = weight_whole (weighs_word (word kind.Body (count ss)) refl (weighs_list ss))

pub weight_of_statement : (s : Statement) → weight_words (encode s) ≡ weight s
weight_of_statement s = weight_whole (weighs_statement s)
