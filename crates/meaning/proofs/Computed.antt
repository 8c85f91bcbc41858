-- The examples, by computation.
use Rattle.std.proofs.Common.{refl}
use Rattle.meaning.specs.Completion.{end, ◌thereafter◌, if_normal, ◌then◌, breakable, with_label, catch_by, unless_stopped, finally, one_round, if_continues, turns, loop}
use Rattle.meaning.specs.Run.{act, eval_parts, eval, eval_optional, branch, branch_optional, bind_name, declare_one, declare, leaving, scope, scoped, renewed, while_loop, do_loop, for_body, for_loop, fall_through, if_default, from_default, if_selected, select_case, switch, return_value, catch_clause, run, run_body}
use Rattle.meaning.specs.Fold.KeepVar.{keep_var}
use Rattle.meaning.specs.Fold.IsTerminated.{is_bare_var, all_bare_vars, is_terminated}
use Rattle.meaning.specs.Fold.Block.{is_if_else, is_loop}
use Rattle.meaning.specs.Fold.If.{fold_alternate}
use Rattle.meaning.specs.Fold.Labeled.{is_break_to, breaks_at_once}
use Rattle.meaning.specs.Fold.Switch.{is_blank, all_blank, is_break, ends_in_break, without_last_break, cases_end_in_break, cases_without_last_break, has_default, cases_from_default, cut_last, cut_before_last, is_removable, without_end, without_before_last}
use Rattle.meaning.specs.Pass.{fold}
use Rattle.meaning.specs.Examples.{ExampleRuns, ExampleFolds}

pub example_runs : ExampleRuns
unfolding run run_body end ◌thereafter◌ if_normal ◌then◌ breakable with_label catch_by unless_stopped finally one_round if_continues turns loop act eval_parts eval eval_optional branch branch_optional bind_name declare_one declare leaving scope scoped renewed while_loop do_loop for_body for_loop fall_through if_default from_default if_selected select_case switch return_value catch_clause
example_runs = record { while_round = refl; while_spent = refl; do_continue = refl; for_let = refl; finalizer_overrides = refl; catch_scopes = refl; label_through_try = refl; gone_in_scope = refl; spent_in_try = refl; gone_in_sequence = refl; continue_outer = refl; switch_default = refl; switch_falls = refl }

pub example_folds : ExampleFolds
unfolding fold keep_var is_bare_var all_bare_vars is_terminated is_if_else is_loop fold_alternate is_break_to breaks_at_once is_blank all_blank is_break ends_in_break without_last_break cases_end_in_break cases_without_last_break has_default cases_from_default cut_last cut_before_last is_removable without_end without_before_last
example_folds = record { matched_case = refl; default_case = refl; missing_case = refl; switch_gone = refl; if_stub = refl; if_granted = refl; for_var = refl; for_let = refl; label_breaks = refl; try_cleared = refl; for_parts_lem = refl; if_else_empty = refl }
