-- Which parts a For has, by its number.
use Rattle.std.proofs.Common.{◌≡◌, ℕ, Some, None, Option, refl}
use Rattle.words.specs.Words.{for_expression, for_declaration, for_test, for_update, has}
use Rattle.words.specs.Tree.{Expression, Start, no_start, start_expression, start_var, start_let}
use Rattle.words.specs.Encode.{flag, for_number}

-- whether a For begins with an expression, and with a declaration
abbrev pub by_expression : Start → ℕ
by_expression no_start = 0
by_expression (start_expression e) = 1
by_expression (start_var d ds) = 0
by_expression (start_let d ds) = 0

abbrev pub by_declaration : Start → ℕ
by_declaration no_start = 0
by_declaration (start_expression e) = 0
by_declaration (start_var d ds) = 1
by_declaration (start_let d ds) = 1

-- what a For's number tells
pub record ForHas (i : Start) (t u : Option Expression) : Type 0 where
  pub has_expression : has for_expression (for_number i t u) ≡ by_expression i
  pub has_declaration : has for_declaration (for_number i t u) ≡ by_declaration i
  pub has_test : has for_test (for_number i t u) ≡ flag 1 t
  pub has_update : has for_update (for_number i t u) ≡ flag 1 u

pub for_has : (i : Start) (t u : Option Expression) → ForHas i t u
for_has no_start None None = record { has_expression = refl; has_declaration = refl; has_test = refl; has_update = refl }
for_has no_start None (Some u) = record { has_expression = refl; has_declaration = refl; has_test = refl; has_update = refl }
for_has no_start (Some t) None = record { has_expression = refl; has_declaration = refl; has_test = refl; has_update = refl }
for_has no_start (Some t) (Some u) = record { has_expression = refl; has_declaration = refl; has_test = refl; has_update = refl }
for_has (start_expression e) None None = record { has_expression = refl; has_declaration = refl; has_test = refl; has_update = refl }
for_has (start_expression e) None (Some u) = record { has_expression = refl; has_declaration = refl; has_test = refl; has_update = refl }
for_has (start_expression e) (Some t) None = record { has_expression = refl; has_declaration = refl; has_test = refl; has_update = refl }
for_has (start_expression e) (Some t) (Some u) = record { has_expression = refl; has_declaration = refl; has_test = refl; has_update = refl }
for_has (start_var d ds) None None = record { has_expression = refl; has_declaration = refl; has_test = refl; has_update = refl }
for_has (start_var d ds) None (Some u) = record { has_expression = refl; has_declaration = refl; has_test = refl; has_update = refl }
for_has (start_var d ds) (Some t) None = record { has_expression = refl; has_declaration = refl; has_test = refl; has_update = refl }
for_has (start_var d ds) (Some t) (Some u) = record { has_expression = refl; has_declaration = refl; has_test = refl; has_update = refl }
for_has (start_let d ds) None None = record { has_expression = refl; has_declaration = refl; has_test = refl; has_update = refl }
for_has (start_let d ds) None (Some u) = record { has_expression = refl; has_declaration = refl; has_test = refl; has_update = refl }
for_has (start_let d ds) (Some t) None = record { has_expression = refl; has_declaration = refl; has_test = refl; has_update = refl }
for_has (start_let d ds) (Some t) (Some u) = record { has_expression = refl; has_declaration = refl; has_test = refl; has_update = refl }
