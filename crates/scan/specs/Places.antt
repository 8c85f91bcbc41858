-- Statement places (docs/FORMAT.md, "Places"): the statements of a script, counted from 0 in written order, a
-- statement before those inside it, a Let of a list among them. Bodies, catches and cases have no place, nor has
-- a For's declaration.
use Rattle.std.specs.Prelude.{ℕ, zero, suc, ◌+◌, Bool, false, cond, List, [], ◌∷◌, ◌++◌, length, Some, None, Option, ◌==◌}
use Rattle.words.specs.declared.word.Kind.TheVariants as kind
use Rattle.words.specs.declared.word.Word.{Word}
use Rattle.words.specs.Words.{for_declaration, has}
use Rattle.words.specs.Words.{from_to}
use Rattle.words.specs.Tree.{Statement, Empty, Break, Continue, Block, Expr, Throw, Var, If, IfElse, For, While, Do, Switch, Label, BreakTo, ContinueTo, Return, TryCatch, TryFinally, TryBoth}
use Rattle.words.specs.Tree.{Statements, none, some, Let, Cases, no_case, case}
use Rattle.words.specs.Encode.{encode_expression, encode_optional, encode_start, encode_let, encode, encode_body, encode_catch, encode_case, catch_head, case_head, count}

-- By the tree: the words where the statements of a part begin, given the word i where the part begins.
abbrev mutual
  pub places : ℕ → Statement → List ℕ
  places i Empty = i ∷ []
  places i Break = i ∷ []
  places i Continue = i ∷ []
  places i (Block ss) = i ∷ places_list (suc i) ss
  places i (Expr e) = i ∷ []
  places i (Throw e) = i ∷ []
  places i (Var d ds) = i ∷ []
  places i (If e s) = i ∷ places (suc i + length (encode_expression e)) s
  places i (IfElse e s t) =
      let consequent = suc i + length (encode_expression e) in
      i ∷ places consequent s ++ places (consequent + length (encode s)) t
  places i (For st t u s) =
      i ∷ places (suc i + length (encode_start st) + length (encode_optional t) + length (encode_optional u)) s
  places i (While e s) = i ∷ places (suc i + length (encode_expression e)) s
  places i (Do s e) = i ∷ places (suc i) s
  places i (Switch e cs) = i ∷ places_cases (suc i + length (encode_expression e)) cs
  places i (Label l s) = i ∷ places (suc i) s
  places i (BreakTo l) = i ∷ []
  places i (ContinueTo l) = i ∷ []
  places i (Return e) = i ∷ []
  places i (TryCatch b x c) =
      i ∷ places_list (suc (suc i)) b ++ places_list (suc i + length (encode_body b) + length (catch_head x (count c))) c
  places i (TryFinally b f) =
      i ∷ places_list (suc (suc i)) b ++ places_list (suc (suc i + length (encode_body b))) f
  places i (TryBoth b x c f) =
      let handler = suc i + length (encode_body b) in
      i ∷ places_list (suc (suc i)) b
      ++ (places_list (handler + length (catch_head x (count c))) c ++ places_list (suc (handler + length (encode_catch x c))) f)

  pub places_list : ℕ → Statements → List ℕ
  places_list i none = []
  places_list i (some s ss) = places i s ++ places_list (i + length (encode s)) ss
  places_list i (Let d ds ss) = i ∷ places_list (i + length (encode_let d ds)) ss

  pub places_cases : ℕ → Cases → List ℕ
  places_cases i no_case = []
  places_cases i (case t ss cs) =
      places_list (i + length (case_head t (count ss))) ss ++ places_cases (i + length (encode_case t ss)) cs

-- a script's, whose first word is its Body
abbrev pub places_body : Statements → List ℕ
places_body ss = places_list 1 ss

-- By the words.

-- whether the next word is a For's declaration
abbrev pub declares : Word → Bool
declares w = cond (from_to kind.For kind.For w.kind) (has for_declaration w.number == 1) false

-- whether a word begins a statement; `declaration`: it is a For's declaration
abbrev pub begins_statement_lem : Bool → Word → Bool
begins_statement_lem declaration w = cond declaration false (from_to kind.Empty kind.Try w.kind)

-- the words where a statement begins, from word i on
abbrev pub places_from : ℕ → Bool → List Word → List ℕ
places_from i declaration [] = []
places_from i declaration (w ∷ ws) =
    cond (begins_statement_lem declaration w) (i ∷ []) [] ++ places_from (suc i) (declares w) ws

-- the same of one word: whether a statement begins at it
abbrev pub begins_from : Bool → List Word → ℕ → Bool
begins_from declaration [] n = false
begins_from declaration (w ∷ ws) zero = begins_statement_lem declaration w
begins_from declaration (w ∷ ws) (suc n) = begins_from (declares w) ws n

abbrev pub begins_at : List Word → ℕ → Bool
begins_at ws n = begins_from false ws n

abbrev pub places_words : List Word → List ℕ
places_words ws = places_from 0 false ws

-- the word of a place
abbrev pub at_place : ℕ → List ℕ → Option ℕ
at_place n [] = None
at_place zero (i ∷ is) = Some i
at_place (suc n) (i ∷ is) = at_place n is
