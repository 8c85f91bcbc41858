-- No two trees have the same words: the words of a tree, and of its parts, say what it is and where it ends.
use Rattle.std.proofs.Common.{◌≡◌, ℕ, ◌+◌, ◌*◌, ◌≤◌, List, [], ◌∷◌, ◌++◌, map, length, Some, None, Option, sym, refl, ap, ◌∙◌, ap₂, append_assoc, mul-zero, mul-one, arith}
use Rattle.words.specs.declared.word.Kind.{Kind}
use Rattle.words.specs.declared.word.Kind.TheVariants as kind
use Rattle.words.specs.declared.word.Word.{Word}
use Rattle.words.specs.Words.{word, code, for_test, for_update, return_value, if_alternate, try_catch, try_finalizer}
use Rattle.words.specs.Tree.{Expression, expression, Declarator, Name, NameInit, Start, no_start, start_expression, start_var, start_let}
use Rattle.words.specs.Tree.{Statement, Empty, Break, Continue, Block, Expr, Throw, Var, If, IfElse, For, While, Do, Switch, Label, BreakTo, ContinueTo, Return, TryCatch, TryFinally, TryBoth}
use Rattle.words.specs.Tree.{Statements, none, some, Let, Cases, no_case, case}
use Rattle.words.specs.Encode.{encode_expression, encode_optional, encode_declarator, encode_declarators, encode_let, encode_start, flag, start_flag, for_number, count, count_cases, catch_head, case_head, encode, encode_list, encode_cases, encode_body, encode_catch, encode_case}
use Rattle.encoding.proofs.Seen.{Seen, Sight, sight, seen_Empty, seen_Break, seen_Continue, seen_Block, seen_Expr, seen_Throw, seen_Var, seen_If, seen_IfElse, seen_For, seen_While, seen_Do, seen_Switch, seen_Label, seen_BreakTo, seen_ContinueTo, seen_Return, seen_TryCatch, seen_TryFinally, seen_TryBoth}

head_same : {A : Type 0} {x y : A} {xs ys : List A} → x ∷ xs ≡ y ∷ ys → x ≡ y
head_same e = cc

tail_same : {A : Type 0} {x y : A} {xs ys : List A} → x ∷ xs ≡ y ∷ ys → xs ≡ ys
tail_same e = cc

number_same : {w v : Word} {ws vs : List Word} → w ∷ ws ≡ v ∷ vs → w.number ≡ v.number
number_same e = ap (λ w. w.number) (head_same e)

code_same : {w v : Word} {ws vs : List Word} → w ∷ ws ≡ v ∷ vs → code w.kind ≡ code v.kind
code_same e = ap (λ w. code w.kind) (head_same e)

-- the second of two parts goes with what comes after
regroup : (a b p c d q : List Word) → (a ++ b) ++ p ≡ (c ++ d) ++ q → a ++ (b ++ p) ≡ c ++ (d ++ q)
regroup a b p c d q e = sym (append_assoc a b p) ∙ e ∙ append_assoc c d q

-- the same tree, and the same words after it
abbrev pub Same : {A : Type 0} → A → A → List Word → List Word → Type 0
Same a b p q = (a ≡ b) × (p ≡ q)

-- whatever tree has words that begin as this one's do is this one
abbrev pub One : {A : Type 0} → (A → List Word) → A → Type 0
One {A} words_of a = (b : A) (p q : List Word) → words_of a ++ p ≡ words_of b ++ q → Same a b p q

unique_numbers : (xs ys : List ℕ) (p q : List Word) → length xs ≡ length ys → map (word kind.Expression) xs ++ p ≡ map (word kind.Expression) ys ++ q → Same xs ys p q
unique_numbers [] [] p q l e = (refl, e)
unique_numbers [] (y ∷ ys) p q l e = absurd (omega arith)
unique_numbers (x ∷ xs) [] p q l e = absurd (omega arith)
unique_numbers (x ∷ xs) (y ∷ ys) p q l e =
    let r = unique_numbers xs ys p q (omega arith) (tail_same e) in
    (ap₂ (λ a b. a ∷ b) (number_same e) r.0, r.1)

pub unique_expression : (e : Expression) → One encode_expression e
unique_expression (expression x []) (expression y []) p q h = (ap (λ a. expression a []) (number_same h), tail_same h)
unique_expression (expression x []) (expression y (z ∷ zs)) p q h = absurd (omega (arith, code_same h))
unique_expression (expression x (y ∷ ys)) (expression z []) p q h = absurd (omega (arith, code_same h))
unique_expression (expression x (y ∷ ys)) (expression z (u ∷ us)) p q h =
    let r = unique_numbers (x ∷ y ∷ ys) (z ∷ u ∷ us) p q (number_same h) (tail_same h) in
    (ap₂ expression (head_same r.0) (tail_same r.0), r.1)

unique_optional : (e f : Option Expression) (p q : List Word) → flag 1 e ≡ flag 1 f → encode_optional e ++ p ≡ encode_optional f ++ q → Same e f p q
unique_optional None None p q l h = (refl, h)
unique_optional None (Some f) p q l h = absurd (omega arith)
unique_optional (Some e) None p q l h = absurd (omega arith)
unique_optional (Some e) (Some f) p q l h = let r = unique_expression e f p q h in (ap Some r.0, r.1)

pub unique_declarator : (d : Declarator) → One encode_declarator d
unique_declarator (Name x) (Name y) p q h = (ap Name (number_same h), tail_same h)
unique_declarator (Name x) (NameInit y f) p q h = absurd (omega (arith, code_same h))
unique_declarator (NameInit x e) (Name y) p q h = absurd (omega (arith, code_same h))
unique_declarator (NameInit x e) (NameInit y f) p q h =
    let r = unique_expression e f p q (tail_same h) in
    (ap₂ NameInit (number_same h) r.0, r.1)

unique_declarators : (ds es : List Declarator) (p q : List Word) → length ds ≡ length es → encode_declarators ds ++ p ≡ encode_declarators es ++ q → Same ds es p q
unique_declarators [] [] p q l h = (refl, h)
unique_declarators [] (e ∷ es) p q l h = absurd (omega arith)
unique_declarators (d ∷ ds) [] p q l h = absurd (omega arith)
unique_declarators (d ∷ ds) (e ∷ es) p q l h =
    let r = unique_declarator d e _ _ (regroup (encode_declarator d) (encode_declarators ds) p (encode_declarator e) (encode_declarators es) q h) in
    let s = unique_declarators ds es p q (omega arith) r.1 in
    (ap₂ (λ a b. a ∷ b) r.0 s.0, s.1)

-- the nonempty lists of a Var and a Let
unique_nonempty : (d : Declarator) (ds : List Declarator) (e : Declarator) (es : List Declarator) (p q : List Word) → length (d ∷ ds) ≡ length (e ∷ es) →
    encode_declarators (d ∷ ds) ++ p ≡ encode_declarators (e ∷ es) ++ q → (d ≡ e) × (ds ≡ es) × (p ≡ q)
unique_nonempty d ds e es p q l h =
    let r = unique_declarators (d ∷ ds) (e ∷ es) p q l h in
    (head_same r.0, tail_same r.0, r.1)

unique_start : (i j : Start) (p q : List Word) → start_flag i ≡ start_flag j → encode_start i ++ p ≡ encode_start j ++ q → Same i j p q
unique_start no_start no_start p q l h = (refl, h)
unique_start no_start (start_expression f) p q l h = absurd (omega arith)
unique_start no_start (start_var e es) p q l h = absurd (omega arith)
unique_start no_start (start_let e es) p q l h = absurd (omega arith)
unique_start (start_expression e) no_start p q l h = absurd (omega arith)
unique_start (start_expression e) (start_expression f) p q l h = let r = unique_expression e f p q h in (ap start_expression r.0, r.1)
unique_start (start_expression e) (start_var f fs) p q l h = absurd (omega arith)
unique_start (start_expression e) (start_let f fs) p q l h = absurd (omega arith)
unique_start (start_var d ds) no_start p q l h = absurd (omega arith)
unique_start (start_var d ds) (start_expression f) p q l h = absurd (omega arith)
unique_start (start_var d ds) (start_var e es) p q l h =
    let r = unique_nonempty d ds e es p q (number_same h) (tail_same h) in (ap₂ start_var r.0 r.1, r.2)
unique_start (start_var d ds) (start_let e es) p q l h = absurd (omega (arith, code_same h))
unique_start (start_let d ds) no_start p q l h = absurd (omega arith)
unique_start (start_let d ds) (start_expression f) p q l h = absurd (omega arith)
unique_start (start_let d ds) (start_var e es) p q l h = absurd (omega (arith, code_same h))
unique_start (start_let d ds) (start_let e es) p q l h =
    let r = unique_nonempty d ds e es p q (number_same h) (tail_same h) in (ap₂ start_let r.0 r.1, r.2)

-- A For's number tells its parts.

start_small : (i : Start) → start_flag i ≤ 2
start_small no_start = omega arith
start_small (start_expression e) = omega arith
start_small (start_var d ds) = omega arith
start_small (start_let d ds) = omega arith

flag_times : (n : ℕ) (e : Option Expression) → (flag n e ≡ n * flag 1 e) × (flag 1 e ≤ 1)
flag_times n None = (sym (mul-zero n), omega arith)
flag_times n (Some e) = (sym (mul-one n), omega arith)

for_same : (i j : Start) (t u v x : Option Expression) → for_number i t u ≡ for_number j v x → (start_flag i ≡ start_flag j) × (flag 1 t ≡ flag 1 v) × (flag 1 u ≡ flag 1 x)
for_same i j t u v x e =
    let a = start_small i in
    let b = start_small j in
    let c = flag_times for_test t in
    let d = flag_times for_update u in
    let f = flag_times for_test v in
    let g = flag_times for_update x in
    (omega arith, omega arith, omega arith)

-- the heads of catches and cases

unique_catch_head : (x y : Option ℕ) (m n : ℕ) (p q : List Word) → catch_head x m ++ p ≡ catch_head y n ++ q → (x ≡ y) × (m ≡ n) × (p ≡ q)
unique_catch_head None None m n p q h = (refl, number_same h, tail_same h)
unique_catch_head None (Some y) m n p q h = absurd (omega (arith, code_same h))
unique_catch_head (Some x) None m n p q h = absurd (omega (arith, code_same h))
unique_catch_head (Some x) (Some y) m n p q h = (ap Some (number_same (tail_same h)), number_same h, tail_same (tail_same h))

unique_case_head : (t u : Option Expression) (m n : ℕ) (p q : List Word) → case_head t m ++ p ≡ case_head u n ++ q → (t ≡ u) × (m ≡ n) × (p ≡ q)
unique_case_head None None m n p q h = (refl, number_same h, tail_same h)
unique_case_head None (Some f) m n p q h = absurd (omega (arith, code_same h))
unique_case_head (Some e) None m n p q h = absurd (omega (arith, code_same h))
unique_case_head (Some e) (Some f) m n p q h =
    let r = unique_expression e f p q (tail_same h) in (ap Some r.0, number_same h, r.1)

-- Parts of a statement, given that its lists and cases are read back.

abbrev pub OneList : Statements → Type 0
OneList ss = (ts : Statements) (p q : List Word) → count ss ≡ count ts → encode_list ss ++ p ≡ encode_list ts ++ q → Same ss ts p q

abbrev pub OneCases : Cases → Type 0
OneCases cs = (ds : Cases) (p q : List Word) → count_cases cs ≡ count_cases ds → encode_cases cs ++ p ≡ encode_cases ds ++ q → Same cs ds p q

one_body : (ss : Statements) → OneList ss → One encode_body ss
one_body ss f ts p q h = f ts p q (number_same h) (tail_same h)

one_catch : (x : Option ℕ) (c : Statements) → OneList c → (y : Option ℕ) (d : Statements) (p q : List Word) → encode_catch x c ++ p ≡ encode_catch y d ++ q → (x ≡ y) × (c ≡ d) × (p ≡ q)
one_catch x c f y d p q h =
    let r = unique_catch_head x y (count c) (count d) _ _ (regroup (catch_head x (count c)) (encode_list c) p (catch_head y (count d)) (encode_list d) q h) in
    let s = f d p q r.1 r.2 in
    (r.0, s.0, s.1)

one_case : (t : Option Expression) (ss : Statements) → OneList ss → (u : Option Expression) (vs : Statements) (p q : List Word) → encode_case t ss ++ p ≡ encode_case u vs ++ q → (t ≡ u) × (ss ≡ vs) × (p ≡ q)
one_case t ss f u vs p q h =
    let r = unique_case_head t u (count ss) (count vs) _ _ (regroup (case_head t (count ss)) (encode_list ss) p (case_head u (count vs)) (encode_list vs) q h) in
    let s = f vs p q r.1 r.2 in
    (r.0, s.0, s.1)

-- an expression and a statement
one_led : (e : Expression) (s : Statement) → One encode s → (f : Expression) (t : Statement) (p q : List Word) →
    (encode_expression e ++ encode s) ++ p ≡ (encode_expression f ++ encode t) ++ q → (e ≡ f) × (s ≡ t) × (p ≡ q)
one_led e s g f t p q h =
    let r = unique_expression e f _ _ (regroup (encode_expression e) (encode s) p (encode_expression f) (encode t) q h) in
    let u = g t p q r.1 in
    (r.0, u.0, u.1)

-- A statement against what is seen at its own kind and number.

by_Empty : {n : ℕ} {body : List Word} {t : Statement} → Seen kind.Empty n body t → (p q : List Word) → p ≡ body ++ q → Same Empty t p q
by_Empty seen_Empty p q h = (refl, h)

by_Break : {n : ℕ} {body : List Word} {t : Statement} → Seen kind.Break n body t → (p q : List Word) → p ≡ body ++ q → Same Break t p q
by_Break seen_Break p q h = (refl, h)

by_Continue : {n : ℕ} {body : List Word} {t : Statement} → Seen kind.Continue n body t → (p q : List Word) → p ≡ body ++ q → Same Continue t p q
by_Continue seen_Continue p q h = (refl, h)

by_Block : (ss : Statements) → OneList ss → {n : ℕ} {body : List Word} {t : Statement} → Seen kind.Block n body t → (p q : List Word) → count ss ≡ n → encode_list ss ++ p ≡ body ++ q → Same (Block ss) t p q
by_Block ss f (seen_Block ts) p q l h = let r = f ts p q l h in (ap Block r.0, r.1)

by_Expr : (e : Expression) {n : ℕ} {body : List Word} {t : Statement} → Seen kind.Expr n body t → (p q : List Word) → encode_expression e ++ p ≡ body ++ q → Same (Expr e) t p q
by_Expr e (seen_Expr f) p q h = let r = unique_expression e f p q h in (ap Expr r.0, r.1)

by_Throw : (e : Expression) {n : ℕ} {body : List Word} {t : Statement} → Seen kind.Throw n body t → (p q : List Word) → encode_expression e ++ p ≡ body ++ q → Same (Throw e) t p q
by_Throw e (seen_Throw f) p q h = let r = unique_expression e f p q h in (ap Throw r.0, r.1)

by_Var : (d : Declarator) (ds : List Declarator) {n : ℕ} {body : List Word} {t : Statement} → Seen kind.Var n body t → (p q : List Word) → length (d ∷ ds) ≡ n → encode_declarators (d ∷ ds) ++ p ≡ body ++ q → Same (Var d ds) t p q
by_Var d ds (seen_Var e es) p q l h = let r = unique_nonempty d ds e es p q l h in (ap₂ Var r.0 r.1, r.2)

by_If : (e : Expression) (s : Statement) → One encode s → {n : ℕ} {body : List Word} {t : Statement} → Seen kind.If n body t → (p q : List Word) → 0 ≡ n → (encode_expression e ++ encode s) ++ p ≡ body ++ q → Same (If e s) t p q
by_If e s g (seen_If f t) p q l h = let r = one_led e s g f t p q h in (ap₂ If r.0 r.1, r.2)
by_If e s g (seen_IfElse f t u) p q l h = absurd (omega arith)

by_IfElse : (e : Expression) (s t : Statement) → One encode s → One encode t → {n : ℕ} {body : List Word} {u : Statement} → Seen kind.If n body u → (p q : List Word) → if_alternate ≡ n →
    (encode_expression e ++ (encode s ++ encode t)) ++ p ≡ body ++ q → Same (IfElse e s t) u p q
by_IfElse e s t g k (seen_If f u) p q l h = absurd (omega arith)
by_IfElse e s t g k (seen_IfElse f u v) p q l h =
    let a = unique_expression e f _ _ (regroup (encode_expression e) (encode s ++ encode t) p (encode_expression f) (encode u ++ encode v) q h) in
    let b = g u _ _ (regroup (encode s) (encode t) p (encode u) (encode v) q a.1) in
    let c = k v p q b.1 in
    (ap₂ (λ x y. IfElse x y t) a.0 b.0 ∙ ap (IfElse f u) c.0, c.1)

by_For : (i : Start) (t u : Option Expression) (s : Statement) → One encode s → {n : ℕ} {body : List Word} {x : Statement} → Seen kind.For n body x → (p q : List Word) → for_number i t u ≡ n →
    (encode_start i ++ (encode_optional t ++ (encode_optional u ++ encode s))) ++ p ≡ body ++ q → Same (For i t u s) x p q
by_For i t u s g (seen_For j v w y) p q l h =
    let m = for_same i j t u v w l in
    let a = unique_start i j _ _ m.0 (regroup (encode_start i) (encode_optional t ++ (encode_optional u ++ encode s)) p (encode_start j) (encode_optional v ++ (encode_optional w ++ encode y)) q h) in
    let b = unique_optional t v _ _ m.1 (regroup (encode_optional t) (encode_optional u ++ encode s) p (encode_optional v) (encode_optional w ++ encode y) q a.1) in
    let c = unique_optional u w _ _ m.2 (regroup (encode_optional u) (encode s) p (encode_optional w) (encode y) q b.1) in
    let d = g y p q c.1 in
    (ap₂ (λ f k. For f k u s) a.0 b.0 ∙ ap₂ (For j v) c.0 d.0, d.1)

by_While : (e : Expression) (s : Statement) → One encode s → {n : ℕ} {body : List Word} {t : Statement} → Seen kind.While n body t → (p q : List Word) → (encode_expression e ++ encode s) ++ p ≡ body ++ q → Same (While e s) t p q
by_While e s g (seen_While f t) p q h = let r = one_led e s g f t p q h in (ap₂ While r.0 r.1, r.2)

by_Do : (s : Statement) (e : Expression) → One encode s → {n : ℕ} {body : List Word} {t : Statement} → Seen kind.Do n body t → (p q : List Word) → (encode s ++ encode_expression e) ++ p ≡ body ++ q → Same (Do s e) t p q
by_Do s e g (seen_Do t f) p q h =
    let a = g t _ _ (regroup (encode s) (encode_expression e) p (encode t) (encode_expression f) q h) in
    let b = unique_expression e f p q a.1 in
    (ap₂ Do a.0 b.0, b.1)

by_Switch : (e : Expression) (cs : Cases) → OneCases cs → {n : ℕ} {body : List Word} {t : Statement} → Seen kind.Switch n body t → (p q : List Word) → count_cases cs ≡ n → (encode_expression e ++ encode_cases cs) ++ p ≡ body ++ q → Same (Switch e cs) t p q
by_Switch e cs g (seen_Switch f ds) p q l h =
    let a = unique_expression e f _ _ (regroup (encode_expression e) (encode_cases cs) p (encode_expression f) (encode_cases ds) q h) in
    let b = g ds p q l a.1 in
    (ap₂ Switch a.0 b.0, b.1)

by_Label : (l : ℕ) (s : Statement) → One encode s → {n : ℕ} {body : List Word} {t : Statement} → Seen kind.Label n body t → (p q : List Word) → l ≡ n → encode s ++ p ≡ body ++ q → Same (Label l s) t p q
by_Label l s g (seen_Label m t) p q e h = let r = g t p q h in (ap₂ Label e r.0, r.1)

by_BreakTo : (l : ℕ) {n : ℕ} {body : List Word} {t : Statement} → Seen kind.BreakTo n body t → (p q : List Word) → l ≡ n → p ≡ body ++ q → Same (BreakTo l) t p q
by_BreakTo l (seen_BreakTo m) p q e h = (ap BreakTo e, h)

by_ContinueTo : (l : ℕ) {n : ℕ} {body : List Word} {t : Statement} → Seen kind.ContinueTo n body t → (p q : List Word) → l ≡ n → p ≡ body ++ q → Same (ContinueTo l) t p q
by_ContinueTo l (seen_ContinueTo m) p q e h = (ap ContinueTo e, h)

by_Return : (e : Option Expression) {n : ℕ} {body : List Word} {t : Statement} → Seen kind.Return n body t → (p q : List Word) → flag return_value e ≡ n → encode_optional e ++ p ≡ body ++ q → Same (Return e) t p q
by_Return e (seen_Return f) p q l h = let r = unique_optional e f p q l h in (ap Return r.0, r.1)

by_TryCatch : (b : Statements) (x : Option ℕ) (c : Statements) → OneList b → OneList c → {n : ℕ} {body : List Word} {t : Statement} → Seen kind.Try n body t → (p q : List Word) → try_catch ≡ n →
    (encode_body b ++ encode_catch x c) ++ p ≡ body ++ q → Same (TryCatch b x c) t p q
by_TryCatch b x c f g (seen_TryFinally d k) p q l h = absurd (omega arith)
by_TryCatch b x c f g (seen_TryBoth d y e k) p q l h = absurd (omega arith)
by_TryCatch b x c f g (seen_TryCatch d y e) p q l h =
    let m = one_body b f d _ _ (regroup (encode_body b) (encode_catch x c) p (encode_body d) (encode_catch y e) q h) in
    let r = one_catch x c g y e p q m.1 in
    (ap₂ (λ u v. TryCatch u v c) m.0 r.0 ∙ ap (TryCatch d y) r.1, r.2)

by_TryFinally : (b k : Statements) → OneList b → OneList k → {n : ℕ} {body : List Word} {t : Statement} → Seen kind.Try n body t → (p q : List Word) → try_finalizer ≡ n →
    (encode_body b ++ encode_body k) ++ p ≡ body ++ q → Same (TryFinally b k) t p q
by_TryFinally b k f g (seen_TryCatch d y e) p q l h = absurd (omega arith)
by_TryFinally b k f g (seen_TryBoth d y e m) p q l h = absurd (omega arith)
by_TryFinally b k f g (seen_TryFinally d e) p q l h =
    let m = one_body b f d _ _ (regroup (encode_body b) (encode_body k) p (encode_body d) (encode_body e) q h) in
    let r = one_body k g e p q m.1 in
    (ap₂ TryFinally m.0 r.0, r.1)

by_TryBoth : (b : Statements) (x : Option ℕ) (c k : Statements) → OneList b → OneList c → OneList k → {n : ℕ} {body : List Word} {t : Statement} → Seen kind.Try n body t → (p q : List Word) → try_catch + try_finalizer ≡ n →
    (encode_body b ++ (encode_catch x c ++ encode_body k)) ++ p ≡ body ++ q → Same (TryBoth b x c k) t p q
by_TryBoth b x c k f g i (seen_TryCatch d y e) p q l h = absurd (omega arith)
by_TryBoth b x c k f g i (seen_TryFinally d e) p q l h = absurd (omega arith)
by_TryBoth b x c k f g i (seen_TryBoth d y e m) p q l h =
    let o = one_body b f d _ _ (regroup (encode_body b) (encode_catch x c ++ encode_body k) p (encode_body d) (encode_catch y e ++ encode_body m) q h) in
    let r = one_catch x c g y e _ _ (regroup (encode_catch x c) (encode_body k) p (encode_catch y e) (encode_body m) q o.1) in
    let s = one_body k i m p q r.2 in
    (ap₂ (λ u v. TryBoth u v c k) o.0 r.0 ∙ ap₂ (TryBoth d y) r.1 s.0, s.1)

-- a Let is no statement
no_Let : {n : ℕ} {body : List Word} {t : Statement} → Seen kind.Let n body t → ⊥
no_Let v = elim v [ ]

abbrev view : (k : Kind) (n : ℕ) (ws : List Word) (t : Statement) (q : List Word) → word k n ∷ ws ≡ encode t ++ q → Sight (word k n) ws t q
view k n ws t q h = sight (word k n) ws t q h

mutual
  pub unique_statement : (s : Statement) → One encode s
  unique_statement Empty t p q h = let v = view kind.Empty 0 p t q h in by_Empty v.seen p q v.after
  unique_statement Break t p q h = let v = view kind.Break 0 p t q h in by_Break v.seen p q v.after
  unique_statement Continue t p q h = let v = view kind.Continue 0 p t q h in by_Continue v.seen p q v.after
  unique_statement (Block ss) t p q h = let v = view _ _ _ t q h in by_Block ss (unique_list ss) v.seen p q refl v.after
  unique_statement (Expr e) t p q h = let v = view _ _ _ t q h in by_Expr e v.seen p q v.after
  unique_statement (Throw e) t p q h = let v = view _ _ _ t q h in by_Throw e v.seen p q v.after
  unique_statement (Var d ds) t p q h = let v = view _ _ _ t q h in by_Var d ds v.seen p q refl v.after
  unique_statement (If e s) t p q h = let v = view _ _ _ t q h in by_If e s (unique_statement s) v.seen p q refl v.after
  unique_statement (IfElse e s u) t p q h = let v = view _ _ _ t q h in by_IfElse e s u (unique_statement s) (unique_statement u) v.seen p q refl v.after
  unique_statement (For i u x s) t p q h = let v = view _ _ _ t q h in by_For i u x s (unique_statement s) v.seen p q refl v.after
  unique_statement (While e s) t p q h = let v = view _ _ _ t q h in by_While e s (unique_statement s) v.seen p q v.after
  unique_statement (Do s e) t p q h = let v = view _ _ _ t q h in by_Do s e (unique_statement s) v.seen p q v.after
  unique_statement (Switch e cs) t p q h = let v = view _ _ _ t q h in by_Switch e cs (unique_cases cs) v.seen p q refl v.after
  unique_statement (Label l s) t p q h = let v = view _ _ _ t q h in by_Label l s (unique_statement s) v.seen p q refl v.after
  unique_statement (BreakTo l) t p q h = let v = view kind.BreakTo l p t q h in by_BreakTo l v.seen p q refl v.after
  unique_statement (ContinueTo l) t p q h = let v = view kind.ContinueTo l p t q h in by_ContinueTo l v.seen p q refl v.after
  unique_statement (Return e) t p q h = let v = view _ _ _ t q h in by_Return e v.seen p q refl v.after
  unique_statement (TryCatch b x c) t p q h = let v = view _ _ _ t q h in by_TryCatch b x c (unique_list b) (unique_list c) v.seen p q refl v.after
  unique_statement (TryFinally b f) t p q h = let v = view _ _ _ t q h in by_TryFinally b f (unique_list b) (unique_list f) v.seen p q refl v.after
  unique_statement (TryBoth b x c f) t p q h = let v = view _ _ _ t q h in by_TryBoth b x c f (unique_list b) (unique_list c) (unique_list f) v.seen p q refl v.after

  pub unique_list : (ss : Statements) → OneList ss
  unique_list none none p q l h = (refl, h)
  unique_list none (some t ts) p q l h = absurd (omega arith)
  unique_list none (Let e es ts) p q l h = absurd (omega arith)
  unique_list (some s ss) none p q l h = absurd (omega arith)
  unique_list (some s ss) (some t ts) p q l h =
      let a = unique_statement s t _ _ (regroup (encode s) (encode_list ss) p (encode t) (encode_list ts) q h) in
      let b = unique_list ss ts p q (omega arith) a.1 in
      (ap₂ some a.0 b.0, b.1)
  unique_list (some s ss) (Let e es ts) p q l h =
      absurd (no_Let (view _ _ _ s _ (sym (regroup (encode s) (encode_list ss) p (encode_let e es) (encode_list ts) q h))).seen)
  unique_list (Let d ds ss) none p q l h = absurd (omega arith)
  unique_list (Let d ds ss) (some t ts) p q l h =
      absurd (no_Let (view _ _ _ t _ (regroup (encode_let d ds) (encode_list ss) p (encode t) (encode_list ts) q h)).seen)
  unique_list (Let d ds ss) (Let e es ts) p q l h =
      let g = regroup (encode_let d ds) (encode_list ss) p (encode_let e es) (encode_list ts) q h in
      let a = unique_nonempty d ds e es _ _ (number_same g) (tail_same g) in
      let b = unique_list ss ts p q (omega arith) a.2 in
      (ap₂ (λ x y. Let x y ss) a.0 a.1 ∙ ap (Let e es) b.0, b.1)

  pub unique_cases : (cs : Cases) → OneCases cs
  unique_cases no_case no_case p q l h = (refl, h)
  unique_cases no_case (case u ts ds) p q l h = absurd (omega arith)
  unique_cases (case t ss cs) no_case p q l h = absurd (omega arith)
  unique_cases (case t ss cs) (case u ts ds) p q l h =
      let a = one_case t ss (unique_list ss) u ts _ _ (regroup (encode_case t ss) (encode_cases cs) p (encode_case u ts) (encode_cases ds) q h) in
      let b = unique_cases cs ds p q (omega arith) a.2 in
      (ap₂ (λ x y. case x y cs) a.0 a.1 ∙ ap (case u ts) b.0, b.1)

pub unique_body : (ss : Statements) → One encode_body ss
unique_body ss = one_body ss (unique_list ss)

pub unique_case : (t : Option Expression) (ss : Statements) (u : Option Expression) (vs : Statements) (p q : List Word) → encode_case t ss ++ p ≡ encode_case u vs ++ q → (t ≡ u) × (ss ≡ vs) × (p ≡ q)
unique_case t ss = one_case t ss (unique_list ss)
