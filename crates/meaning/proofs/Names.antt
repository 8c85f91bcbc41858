-- Names left of a list: the algebra, and the names of stubs and joined lists.
use Rattle.std.proofs.Common.{◌≡◌, ℕ, Bool, true, false, cond, eqb, List, [], ◌∷◌, ◌++◌, map, sym, refl, ap, ◌∙◌, append_assoc, arith, eqb→eq, ◌||◌}
use Rattle.host.specs.Model.{Model}
use Rattle.words.specs.Tree.{Declarator, Name, NameInit}
use Rattle.words.specs.Tree.{Statements, none, some, Let}
use Rattle.slices.specs.Among.{among}
use Rattle.meaning.specs.Run.{bound_names}
use Rattle.meaning.specs.FoldLaws.{NamesLeft}
use Rattle.meaning.specs.Fold.KeepVar.{keep_var, keep_list, stub_var, stub_or_empty, stub_list}
use Rattle.meaning.specs.Fold.If.{not_granted}
use Rattle.meaning.specs.Fold.Select.{join}
use Rattle.meaning.proofs.Evaluations.{append_nil}
use Rattle.meaning.proofs.Surroundings.{among_append, append_more}

contrary : {A : Type 0} (b : Bool) → b ≡ true → b ≡ false → A
contrary b p q = absurd (let z : true ≡ false = sym p ∙ q in let y : ◌≡◌ {A = ℕ} 0 1 = cc in omega arith)

neither_left : (a b : Bool) → cond a true b ≡ false → a ≡ false
neither_left true b q = q
neither_left false b q = refl

neither_right : (a b : Bool) → cond a true b ≡ false → b ≡ false
neither_right true b q = contrary true refl q
neither_right false b q = q

module _ (m : Model) where
  pub left_same : (xs : List ℕ) → NamesLeft m xs xs
  left_same xs = record { old = λ x q. q; granted = λ x p q. contrary (among x xs) p q }

  pub left_eq : (xs ys : List ℕ) → ys ≡ xs → NamesLeft m xs ys
  left_eq xs ys e = record { old = λ x q. ap (among x) (sym e) ∙ q; granted = λ x p q. contrary (among x xs) p (ap (among x) (sym e) ∙ q) }

  -- the same names in another order
  pub left_alike : (xs ys : List ℕ) → ((x : ℕ) → among x ys ≡ among x xs) → NamesLeft m xs ys
  left_alike xs ys e = record { old = λ x q. sym (e x) ∙ q; granted = λ x p q. contrary (among x xs) p (sym (e x) ∙ q) }

  pub left_chain : (xs ys zs : List ℕ) → NamesLeft m xs ys → NamesLeft m ys zs → NamesLeft m xs zs
  left_chain xs ys zs p q = record { old = λ x r. p.old x (q.old x r); granted = λ x r s. go x r s (among x ys) refl }
    where
      go : (x : ℕ) → among x xs ≡ true → among x zs ≡ false → (b : Bool) → among x ys ≡ b → m.granted? x ≡ true
      go x r s true e = q.granted x e s
      go x r s false e = p.granted x r e

  pub left_append : (xs ys us vs : List ℕ) → NamesLeft m xs ys → NamesLeft m us vs → NamesLeft m (xs ++ us) (ys ++ vs)
  left_append xs ys us vs p q = record {
    old = λ x. append_more x ys vs xs us (p.old x) (q.old x);
    granted = λ x r s. go x (sym (among_append x xs us) ∙ r) (sym (among_append x ys vs) ∙ s) (among x xs) refl;
  }
    where
      go : (x : ℕ) → cond (among x xs) true (among x us) ≡ true → cond (among x ys) true (among x vs) ≡ false → (b : Bool) → among x xs ≡ b → m.granted? x ≡ true
      go x r s true e = p.granted x e (neither_left (among x ys) (among x vs) s)
      go x r s false e = q.granted x (sym (ap (λ b. cond b true (among x us)) e) ∙ r) (neither_right (among x ys) (among x vs) s)

  -- names that are all granted may go
  pub left_granted : (xs : List ℕ) → NamesLeft m xs (not_granted m xs)
  left_granted [] = left_same []
  left_granted (x ∷ xs) = go (m.granted? x) refl (left_granted xs)
    where
      go : (b : Bool) → m.granted? x ≡ b → NamesLeft m xs (not_granted m xs) → NamesLeft m (x ∷ xs) (cond b (not_granted m xs) (x ∷ not_granted m xs))
      go true e p = record { old = λ y q. here y (among y xs) (p.old y q); granted = λ y q r. gone y q r (eqb x y) refl }
        where
          here : (y : ℕ) (b : Bool) → b ≡ true → eqb x y || b ≡ true
          here y b q = pick (eqb x y)
            where
              pick : (c : Bool) → c || b ≡ true
              pick true = refl
              pick false = q

          gone : (y : ℕ) → among y (x ∷ xs) ≡ true → among y (not_granted m xs) ≡ false → (c : Bool) → eqb x y ≡ c → m.granted? y ≡ true
          gone y q r true s = ap m.granted? (sym (eqb→eq x y (rw s tt))) ∙ e
          gone y q r false s = p.granted y (sym (ap (λ c. c || among y xs) s) ∙ q) r
      go false e p = left_append (x ∷ []) (x ∷ []) xs (not_granted m xs) (left_same (x ∷ [])) p

bound_map : (xs : List ℕ) → bound_names (map Name xs) ≡ xs
bound_map [] = refl
bound_map (x ∷ xs) = ap (λ ys. x ∷ ys) (bound_map xs)

pub bound_append : (ds : List Declarator) (xs : List ℕ) → bound_names (ds ++ map Name xs) ≡ bound_names ds ++ xs
bound_append [] xs = bound_map xs
bound_append (Name x ∷ ds) xs = ap (λ ys. x ∷ ys) (bound_append ds xs)
bound_append (NameInit x e ∷ ds) xs = ap (λ ys. x ∷ ys) (bound_append ds xs)

pub keep_stub_var : (x : ℕ) (xs : List ℕ) → keep_var (stub_var x xs) ≡ x ∷ xs
unfolding keep_var
keep_stub_var x xs = ap (λ ys. x ∷ ys) (bound_map xs)

pub keep_stub_or_empty : (xs : List ℕ) → keep_var (stub_or_empty xs) ≡ xs
unfolding keep_var
keep_stub_or_empty [] = refl
keep_stub_or_empty (x ∷ xs) = ap (λ ys. x ∷ ys) (bound_map xs)

pub keep_stub_list : (xs : List ℕ) → keep_list (stub_list xs) ≡ xs
unfolding keep_var
keep_stub_list [] = refl
keep_stub_list (x ∷ xs) = append_nil _ ∙ ap (λ ys. x ∷ ys) (bound_map xs)

pub keep_join : (ss ts : Statements) → keep_list (join ss ts) ≡ keep_list ss ++ keep_list ts
unfolding keep_var
keep_join none ts = refl
keep_join (some s ss) ts = ap (λ x. keep_var s ++ x) (keep_join ss ts) ∙ sym (append_assoc (keep_var s) (keep_list ss) (keep_list ts))
keep_join (Let d ds ss) ts = keep_join ss ts
