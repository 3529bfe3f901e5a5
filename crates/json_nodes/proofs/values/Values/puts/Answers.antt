use Rattle.std.proofs.Common.{◌≡◌, sym, subst}
use Rattle.json_text.specs.Changes.{edits_of}
use Rattle.json_text.specs.Json.{Json, span_of}
use Rattle.json_text.specs.Replace.{RiseFrom, Rise}
use Rattle.json_nodes.specs.Values.{doc_of}
use Rattle.json_nodes.specs.At.{At}
use Rattle.json_nodes.specs.Doc.{Doc}
use Rattle.json_nodes.specs.Puts.{put_edits, text_for}
use Rattle.json_nodes.proofs.Swapped.{object_edits, are_edits, no_edits, edits_within, edits_in_text}
use Rattle.json_nodes.proofs.values.Values.puts.Goals as goal

pub returns-in-Object-clause-edits : goal.returns-in-Object-clause-edits
returns-in-Object-clause-edits c = λ t a. object_edits (λ changes. edits_of changes.items) c.member_puts.result (doc_of c.args.self) c.args.node c.kind.result t (text_for c.args.puts.now)
    c.in-Object.is (c.kind.ensures t a) c.member_puts.ensures a

pub returns-in-Object-clause-within : goal.returns-in-Object-clause-within
returns-in-Object-clause-within c = λ t a.
    let doc : Doc = doc_of c.args.self in
    are_edits (λ changes. edits_of changes.items) c.member_puts.result (λ es. RiseFrom (span_of t).from (span_of t).to es) (put_edits (text_for c.args.puts.now) t) (edits_within doc c.args.node t (text_for c.args.puts.now) a)
    (object_edits (λ changes. edits_of changes.items) c.member_puts.result doc c.args.node c.kind.result t (text_for c.args.puts.now) c.in-Object.is (c.kind.ensures t a) c.member_puts.ensures a)

pub returns-in-Object-clause-rise : goal.returns-in-Object-clause-rise
returns-in-Object-clause-rise c = λ t a.
    let doc : Doc = doc_of c.args.self in
    are_edits (λ changes. edits_of changes.items) c.member_puts.result (Rise c.args.self.bytes.now) (put_edits (text_for c.args.puts.now) t) (edits_in_text doc c.args.node t (text_for c.args.puts.now) a)
    (object_edits (λ changes. edits_of changes.items) c.member_puts.result doc c.args.node c.kind.result t (text_for c.args.puts.now) c.in-Object.is (c.kind.ensures t a) c.member_puts.ensures a)

pub returns-in_default : goal.returns-in_default
returns-in_default c =
    let doc : Doc = doc_of c.args.self in
    let none : (t : Json) → At doc c.args.node t → edits_of c.new.result.items ≡ put_edits (text_for c.args.puts.now) t
    = λ t a. subst (λ cs. edits_of cs ≡ put_edits (text_for c.args.puts.now) t) (sym c.new.ensures.items) (no_edits c.kind.result t (text_for c.args.puts.now) c.in_default.not-Object (c.kind.ensures t a)) in
    record {
      edits = none;
      within = λ t a. subst (λ es. RiseFrom (span_of t).from (span_of t).to es) (sym (none t a)) (edits_within doc c.args.node t (text_for c.args.puts.now) a);
      rise = λ t a. subst (Rise c.args.self.bytes.now) (sym (none t a)) (edits_in_text doc c.args.node t (text_for c.args.puts.now) a);
    }
