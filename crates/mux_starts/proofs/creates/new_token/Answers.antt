-- What a request creates.
use Rattle.std.proofs.Common.{Some, codes, refl, subst, sym, ◌∙◌}
use Rattle.group_rows.specs.Created.{created_of}
use Rattle.mux_tables.specs.mux_tokens.proofs.TokenIds.{token_id_text}
use Rattle.mux_starts.specs.Creates.{Creates}
use Rattle.mux_starts.proofs.Creating.{creates_again, creates_new, creates_nothing, creates_reserved, its_id}
use Rattle.mux_starts.proofs.creates.new_token.Goals as goal

pub returns-in_default : goal.returns-in_default
returns-in_default c = λ settings before body method id params x read says here st.
    creates_nothing body (created_of settings x.life.start before) (sym (c.in_default.ensures refl body method id params read says))

pub returns-then-is_created : goal.returns-then-is_created
returns-then-is_created c = λ settings before body method id params x read says here st.
    let new = created_of settings x.life.start before in
    let at = sym (c.in-Some.ensures refl body method id params read says) in
    let i = its_id body new c.in-Some.token.now at in
    creates_again body new c.in-Some.token.now at (sym (c.is_created.ensures settings before x i.0 here (token_id_text (codes "token") body c.in-Some.token.now i.0 at i.1) st) ∙ c.if-is_created.true)

pub returns-then-reserved : goal.returns-then-reserved
returns-then-reserved c = λ settings before body method id params x read says here st.
    creates_reserved body (created_of settings x.life.start before) c.in-Some.token.now (sym (c.in-Some.ensures refl body method id params read says)) (sym (c.in_ok-reserved.ensures refl body method id params read says) ∙ c.if-reserved.true)

pub returns : goal.returns
returns c = λ settings before body method id params x read says here st.
    let new = created_of settings x.life.start before in
    let at = sym (c.in-Some.ensures refl body method id params read says) in
    let i = its_id body new c.in-Some.token.now at in
    subst (λ w. Creates body new (Some w)) (sym (c.new.ensures ∙ c.in_ok-from_slice.ensures.items)) (creates_new body new c.in-Some.token.now at (sym (c.is_created.ensures settings before x i.0 here (token_id_text (codes "token") body c.in-Some.token.now i.0 at i.1) st) ∙ c.if-is_created.false)
    (sym (c.in_ok-reserved.ensures refl body method id params read says) ∙ c.if-reserved.false))
