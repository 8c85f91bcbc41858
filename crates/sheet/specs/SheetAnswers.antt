-- What a sheet's questions look up in its rows: each is a case by the kind of one row. A chain of
-- 'is false' rows is followed to the row where it ends.
use Rattle.std.specs.Prelude.{◌≡◌, ℕ, Bool, true, false, not, ◌||◌, List, Some, None, Option}
use Rattle.std.specs.List.{slice_get}
use Rattle.std.specs.Option.{option_map}
use Rattle.sheet.specs.declared.sheet_row.SheetRow.{SheetRow}
use Rattle.sheet.specs.declared.sheet_row.SheetRow.TheVariants.{Literal, Named, IsFalse, AreEqual, Command}
use Rattle.values.specs.declared.sheet_value.SheetValue.{SheetValue}
use Rattle.values.specs.Strict.{is_strictly_equal, to_boolean}
use Rattle.values.specs.SheetValues.{language, boolean_value}
use Rattle.sheet.specs.SheetRows.{sheet_row_at}
use Rattle.sheet.specs.SheetModel.{Expression}

-- the operand of an 'is false' row
abbrev pub false_operand_lem : Option SheetRow → Option ℕ
false_operand_lem None = None
false_operand_lem (Some (Literal n)) = None
false_operand_lem (Some (Named n)) = None
false_operand_lem (Some (IsFalse n)) = Some n
false_operand_lem (Some (AreEqual r s)) = None
false_operand_lem (Some Command) = None

-- the entry of a row that is one
abbrev pub entry_of : List SheetValue → Option SheetRow → Option SheetValue
entry_of entries None = None
entry_of entries (Some (Literal n)) = slice_get entries n
entry_of entries (Some (Named n)) = slice_get entries n
entry_of entries (Some (IsFalse n)) = None
entry_of entries (Some (AreEqual r s)) = None
entry_of entries (Some Command) = None

abbrev pub compared : Option SheetValue → Option SheetValue → Option SheetValue
compared None b = None
compared (Some a) None = None
compared (Some a) (Some b) = Some (boolean_value (is_strictly_equal (language a) (language b)))

-- the known value of a row that is no 'is false' row
abbrev pub end_value_lem : List ℕ → List SheetValue → Option SheetRow → Option SheetValue
end_value_lem rows entries None = None
end_value_lem rows entries (Some (Literal n)) = slice_get entries n
end_value_lem rows entries (Some (Named n)) = slice_get entries n
end_value_lem rows entries (Some (IsFalse n)) = None
end_value_lem rows entries (Some (AreEqual r s)) = compared (entry_of entries (sheet_row_at rows r)) (entry_of entries (sheet_row_at rows s))
end_value_lem rows entries (Some Command) = None

abbrev pub is_command_lem : Option SheetRow → Bool
is_command_lem None = false
is_command_lem (Some (Literal n)) = false
is_command_lem (Some (Named n)) = false
is_command_lem (Some (IsFalse n)) = false
is_command_lem (Some (AreEqual r s)) = false
is_command_lem (Some Command) = true

-- whether a row that is no 'is false' row has effects; what is no row has
abbrev pub end_effects_lem : List ℕ → Option SheetRow → Bool
end_effects_lem rows None = true
end_effects_lem rows (Some (Literal n)) = false
end_effects_lem rows (Some (Named n)) = false
end_effects_lem rows (Some (IsFalse n)) = true
end_effects_lem rows (Some (AreEqual r s)) = is_command_lem (sheet_row_at rows r) || is_command_lem (sheet_row_at rows s)
end_effects_lem rows (Some Command) = true

abbrev pub is_literal_row_lem : Option SheetRow → Bool
is_literal_row_lem None = false
is_literal_row_lem (Some (Literal n)) = true
is_literal_row_lem (Some (Named n)) = false
is_literal_row_lem (Some (IsFalse n)) = false
is_literal_row_lem (Some (AreEqual r s)) = false
is_literal_row_lem (Some Command) = false

abbrev pub negate_when : Bool → Bool → Bool
negate_when true b = not b
negate_when false b = b

abbrev pub known_truth : Expression → Option Bool
known_truth x = option_map to_boolean x.known

-- an expression follows another one through 'is false' rows: its truth is that of the other, negated
-- or not, and its effects are the other's
pub record Follows (x end : Expression) (negated : Bool) : Type 0 where
  pub truth : known_truth x ≡ option_map (negate_when negated) (known_truth end)
  pub effects : x.effects ≡ end.effects
