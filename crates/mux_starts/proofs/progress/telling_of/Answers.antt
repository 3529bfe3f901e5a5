-- What a start tells of an open request.
use Rattle.std.proofs.Common.{ap, codes, ◌∙◌}
use Rattle.event_model.specs.Members.{named_of}
use Rattle.group_rows.specs.Tokens.{marked_text}
use Rattle.mux_starts.proofs.Progressing.{passes_nothing, passes_one}
use Rattle.mux_starts.proofs.progress.telling_of.Goals as goal

pub returns-in-None : goal.returns-in-None
returns-in-None c = λ settings before body method params s read says at st.
    passes_nothing settings s before body method params (c.in-None.ensures.told settings before s (named_of (codes "token") params) at (c.in_ok-k.ensures body method params read says) st)

pub returns-in_ok-text-in-Some : goal.returns-in_ok-text-in-Some
returns-in_ok-text-in-Some c = λ settings before body method params s read says at st.
    passes_one settings s before body method params (record { editor = c.in-Some.told.editor; text = c.in_ok-text-in-Some.text }) c.in-Some.told.token.now
    (c.in-Some.ensures.told settings before s (named_of (codes "token") params) at (c.in_ok-k.ensures body method params read says) st) says
    (c.in_ok-text-in-Some.ensures body method params read says ∙ ap (λ w. marked_text w body) c.bytes.ensures)
