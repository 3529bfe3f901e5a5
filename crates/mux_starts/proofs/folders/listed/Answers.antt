-- The answer with the folders of the group.
use Rattle.std.proofs.Common.{ap, sym, ◌∙◌}
use Rattle.std.specs.Prelude.{Some, option_map, slice_get}
use Rattle.rpc_message.specs.Message.{id_bytes}
use Rattle.rpc_message.specs.Texts.{ok_text}
use Rattle.mux_turns.specs.group_facts.specs.Settled.{AreUtf8}
use Rattle.mux_turns.specs.group_facts.proofs.Forwards.{get_all}
use Rattle.group_words.specs.declared.kept.Kept.{Kept}
use Rattle.group_words.specs.Houses.{groups_of}
use Rattle.group_words.specs.Rows.{folders_text}
use Rattle.mux_starts.proofs.folders.listed.Goals as goal

pub returns-in-None : goal.returns-in-None
returns-in-None c = λ settings before body x read here settled st.
    ap (option_map (λ (k : Kept). ok_text (id_bytes body) (folders_text k.key.folders))) (c.in-None.ensures settings before st ∙ ap (slice_get (groups_of settings before)) (c.group_number.ensures x here))

pub returns-in_ok-ok_reply-in-Some : goal.returns-in_ok-ok_reply-in-Some
returns-in_ok-ok_reply-in-Some c = λ settings before body x read here settled st.
    let k = c.in-Some.kept.now in
    let found = c.in-Some.ensures settings before st ∙ ap (slice_get (groups_of settings before)) (c.group_number.ensures x here) in
    let spelt = get_all (λ (y : Kept). AreUtf8 y.key.folders) (groups_of settings before) x.life.group k settled.spelt (sym found) in
    let folders = c.in_ok-folders-in-Some.ensures spelt in
    ap Some (c.in_ok-ok_reply-in-Some.ensures ∙ (ap (λ w. ok_text w c.as_slice.result.now) (c.id_bytes.ensures body read) ∙ ap (ok_text (id_bytes body)) (c.as_slice.ensures.value ∙ folders)))
    ∙ ap (option_map (λ (y : Kept). ok_text (id_bytes body) (folders_text y.key.folders))) found
