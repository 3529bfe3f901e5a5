-- The configuration that an editor gives is kept.
use Rattle.std.proofs.Common.{sym, ◌∙◌}
use Rattle.std.specs.Prelude.{None, Some}
use Rattle.mux_tables.proofs.Homes.{home_here}
use Rattle.mux_editors.proofs.Configuring.{kept_change, stays_homeless, stays_unchanged}
use Rattle.mux_editors.proofs.passed.keep_configuration.Goals as goal

pub returns-then-not-is_configured : goal.returns-then-not-is_configured
returns-then-not-is_configured c = record {
  kept = λ settings before body xs read settled st stand.
      stays_unchanged settings c.args.carries.now before c.args.e body xs stand (sym (c.is_configured.ensures settings before body read st) ∙ c.if-not-is_configured.true);
}

pub returns-in-None : goal.returns-in-None
returns-in-None c = record {
  kept = λ settings before body xs read settled st stand.
      stays_homeless settings c.args.carries.now before c.args.e body xs stand (home_here settings c.args.tables.now before c.args.e st None c.requires (sym c.in-None.is ∙ c.group.ensures));
}

pub returns-in_ok-configure-in-Some : goal.returns-in_ok-configure-in-Some
returns-in_ok-configure-in-Some c = record {
  kept = λ settings before body xs read settled st stand.
      kept_change settings c.args.carries.now before c.args.e body xs stand settled (sym (c.is_configured.ensures settings before body read st) ∙ c.if-not-is_configured.false)
      c.in-Some.group (home_here settings c.args.tables.now before c.args.e st (Some c.in-Some.group) c.requires (sym c.in-Some.is ∙ c.group.ensures)) c.args.tables.now.groups.groups st.house.groups.groups
      c.new-text.result (c.new-text.ensures ∙ (c.in_ok-from_slice-in-Some.ensures.items ∙ (c.bytes.ensures.bytes ∙ read.bytes_are))) c.configure.new.self c.configure.ensures.shown c.in_ok-configure-in-Some.ensures.configurations;
}
