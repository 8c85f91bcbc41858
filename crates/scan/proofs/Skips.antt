-- The words of a tree are one part, as a scan that counts the parts due goes past them.
use Rattle.std.proofs.Common.{◌≡◌, ℕ, suc, ◌+◌, List, [], ◌∷◌, ◌++◌, map, length, Some, None, Option, sym, refl, ap, ◌∙◌, ap₂, append_assoc, arith}
use Rattle.words.specs.declared.word.Kind.TheVariants as kind
use Rattle.words.specs.declared.word.Word.{Word}
use Rattle.words.specs.Words.{word}
use Rattle.encoding.proofs.ForNumber.{by_expression, by_declaration, for_has}
use Rattle.grammar.specs.Format.{part_count, skip}
use Rattle.words.specs.Tree.{Expression, expression, Declarator, Name, NameInit, Start, no_start, start_expression, start_var, start_let}
use Rattle.words.specs.Tree.{Statement, Empty, Break, Continue, Block, Expr, Throw, Var, If, IfElse, For, While, Do, Switch, Label, BreakTo, ContinueTo, Return, TryCatch, TryFinally, TryBoth}
use Rattle.words.specs.Tree.{Statements, none, some, Let, Cases, no_case, case}
use Rattle.words.specs.Encode.{encode_expression, encode_optional, encode_declarator, encode_declarators, encode_let, encode_start, flag, for_number, count, count_cases, encode, encode_list, encode_cases, encode_body, encode_catch, encode_case}

-- the words are n whole parts: a scan over them goes past n parts
pub record Skips (n : ℕ) (ws : List Word) : Type 0 where
  pub past : (k : ℕ) (rest : List Word) → skip (k + n) (ws ++ rest) ≡ skip k rest

pub skips_none : Skips 0 []
skips_none = record { past = λ k rest. ap (λ n. skip n rest) (omega arith) }

pub skips_join : {m n : ℕ} {xs ys : List Word} → Skips m xs → Skips n ys → Skips (m + n) (xs ++ ys)
skips_join {m} {n} {xs} {ys} p q = record {
  past = λ k rest.
      ap₂ skip (let e : k + (m + n) ≡ k + n + m = omega arith in e) (append_assoc xs ys rest)
      ∙ p.past (k + n) (ys ++ rest) ∙ q.past k rest;
}

-- a word and its parts are one part
pub skips_word : {n : ℕ} {ws : List Word} (w : Word) → Skips n ws → n ≡ part_count w → Skips 1 (w ∷ ws)
skips_word {n} {ws} w p e = record {
  past = λ k rest.
      ap (λ j. skip j (w ∷ ws ++ rest)) (let s : k + 1 ≡ suc k = omega arith in s)
      ∙ ap (λ j. skip (k + j) (ws ++ rest)) (sym e) ∙ p.past k rest;
}

pub skips_as : {m n : ℕ} {ws : List Word} → Skips m ws → m ≡ n → Skips n ws
skips_as {ws = ws} p e = record { past = λ k rest. ap (λ j. skip (k + j) (ws ++ rest)) (sym e) ∙ p.past k rest }

pub skips_expressions : (xs : List ℕ) → Skips (length xs) (map (word kind.Expression) xs)
skips_expressions [] = skips_none
skips_expressions (x ∷ xs) = skips_as (skips_join (skips_word (word kind.Expression x) skips_none refl) (skips_expressions xs)) (omega arith)

pub skips_expression : (e : Expression) → Skips 1 (encode_expression e)
skips_expression (expression x []) = skips_word _ skips_none refl
skips_expression (expression x (y ∷ ys)) = skips_word _ (skips_expressions (x ∷ y ∷ ys)) (omega arith)

pub skips_optional : (e : Option Expression) → Skips (flag 1 e) (encode_optional e)
skips_optional None = skips_none
skips_optional (Some e) = skips_expression e

pub skips_declarator : (d : Declarator) → Skips 1 (encode_declarator d)
skips_declarator (Name x) = skips_word _ skips_none refl
skips_declarator (NameInit x e) = skips_word _ (skips_expression e) refl

pub skips_declarators : (ds : List Declarator) → Skips (length ds) (encode_declarators ds)
skips_declarators [] = skips_none
skips_declarators (d ∷ ds) = skips_as (skips_join (skips_declarator d) (skips_declarators ds)) (omega arith)

skips_start : (i : Start) → Skips (by_expression i + by_declaration i) (encode_start i)
skips_start no_start = skips_none
skips_start (start_expression e) = skips_expression e
skips_start (start_var d ds) = skips_word _ (skips_declarators (d ∷ ds)) (omega arith)
skips_start (start_let d ds) = skips_word _ (skips_declarators (d ∷ ds)) (omega arith)

-- a For's number says how many parts it has
for_part_count : (i : Start) (t u : Option Expression) → by_expression i + by_declaration i + (flag 1 t + (flag 1 u + 1)) ≡ part_count (word kind.For (for_number i t u))
for_part_count i t u = let h = for_has i t u in omega (arith, h.has_expression, h.has_declaration, h.has_test, h.has_update)

pub skips_let : (d : Declarator) (ds : List Declarator) → Skips 1 (encode_let d ds)
skips_let d ds = skips_word _ (skips_declarators (d ∷ ds)) (omega arith)

-- a catch and a case, given their statements
skips_catch : (x : Option ℕ) (c : Statements) → Skips (count c) (encode_list c) → Skips 1 (encode_catch x c)
skips_catch None c p = skips_word _ p (omega arith)
skips_catch (Some x) c p = skips_word _ (skips_join (skips_word (word kind.Name x) skips_none refl) p) (omega arith)

pub skips_case : (t : Option Expression) (ss : Statements) → Skips (count ss) (encode_list ss) → Skips 1 (encode_case t ss)
skips_case None ss p = skips_word _ p (omega arith)
skips_case (Some e) ss p = skips_word _ (skips_join (skips_expression e) p) (omega arith)

mutual
  pub skips_statement : (s : Statement) → Skips 1 (encode s)
  skips_statement Empty = skips_word _ skips_none refl
  skips_statement Break = skips_word _ skips_none refl
  skips_statement Continue = skips_word _ skips_none refl
  skips_statement (Block ss) = skips_word _ (skips_list ss) (omega arith)
  skips_statement (Expr e) = skips_word _ (skips_expression e) refl
  skips_statement (Throw e) = skips_word _ (skips_expression e) refl
  skips_statement (Var d ds) = skips_word _ (skips_declarators (d ∷ ds)) (omega arith)
  skips_statement (If e s) = skips_word _ (skips_join (skips_expression e) (skips_statement s)) refl
  skips_statement (IfElse e s t) = skips_word _ (skips_join (skips_expression e) (skips_join (skips_statement s) (skips_statement t))) refl
  skips_statement (For i t u s) = skips_word _ (skips_join (skips_start i) (skips_join (skips_optional t) (skips_join (skips_optional u) (skips_statement s)))) (for_part_count i t u)
  skips_statement (While e s) = skips_word _ (skips_join (skips_expression e) (skips_statement s)) refl
  skips_statement (Do s e) = skips_word _ (skips_join (skips_statement s) (skips_expression e)) refl
  skips_statement (Switch e cs) = skips_word _ (skips_join (skips_expression e) (skips_cases cs)) (omega arith)
  skips_statement (Label l s) = skips_word _ (skips_statement s) refl
  skips_statement (BreakTo l) = skips_word _ skips_none refl
  skips_statement (ContinueTo l) = skips_word _ skips_none refl
  skips_statement (Return e) = skips_word _ (skips_optional e) (omega arith)
  skips_statement (TryCatch b x c) = skips_word _ (skips_join (skips_word _ (skips_list b) (omega arith)) (skips_catch x c (skips_list c))) refl
  skips_statement (TryFinally b f) = skips_word _ (skips_join (skips_word _ (skips_list b) (omega arith)) (skips_word _ (skips_list f) (omega arith))) refl
  skips_statement (TryBoth b x c f) = skips_word _ (skips_join (skips_word _ (skips_list b) (omega arith)) (skips_join (skips_catch x c (skips_list c)) (skips_word _ (skips_list f) (omega arith)))) refl

  pub skips_list : (ss : Statements) → Skips (count ss) (encode_list ss)
  skips_list none = skips_none
  skips_list (some s ss) = skips_as (skips_join (skips_statement s) (skips_list ss)) (omega arith)
  skips_list (Let d ds ss) = skips_as (skips_join (skips_let d ds) (skips_list ss)) (omega arith)

  pub skips_cases : (cs : Cases) → Skips (count_cases cs) (encode_cases cs)
  skips_cases no_case = skips_none
  skips_cases (case t ss cs) = skips_as (skips_join (skips_case t ss (skips_list ss)) (skips_cases cs)) (omega arith)

pub skips_body : (ss : Statements) → Skips 1 (encode_body ss)
skips_body ss = skips_word _ (skips_list ss) (omega arith)
