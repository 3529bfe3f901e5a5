-- What was sent to each editor, one event further.
use Rattle.std.proofs.Common.{◌≡◌, ℕ, zero, suc, ◌+◌, ◌-◌, ◌<◌, List, [], ◌∷◌, ◌++◌, length, take, get_or, map, refl, ap, sym, ◌∙◌, nat_eq, nat_le, true, arith, append_assoc}
use Rattle.std.specs.Prelude.{Option, Some, None, SomeIff, slice_get, slice_set}
use Rattle.std.proofs.lemmas.Bool.{ne_eqb}
use Rattle.std.proofs.lemmas.Bool.Decides.{nat_tests}
use Rattle.std.proofs.lemmas.Option.{slice_get_within}
use Rattle.std.proofs.lemmas.List.{length-append, length-set, take_more}
use Rattle.std.proofs.lemmas.List.{map-append}
use Rattle.mux_history.specs.declared.cause.Cause.TheVariants.{Joined, Drained, EditorGone}
use Rattle.mux_history.specs.declared.cause.Why.{Why}
use Rattle.mux_history.specs.declared.out.Out.{Out}
use Rattle.mux_history.specs.declared.out.Out.TheVariants.{ToEditor}
use Rattle.event_model.specs.Event.{Event, behind, said, with_cause, heard}
use Rattle.event_model.specs.Phases.{backlog_behind, backlog_of, editors_behind}
use Rattle.event_model.proofs.Frames.{one_more}
use Rattle.event_model.proofs.Places.{Same, same, other, compare, get_set_same, get_set_other, get_push_same, get_push_other}
use Rattle.mux_causes.specs.Backlogs.{BacklogsStand, bytes_in}

itself : (n : ℕ) → nat_eq n n ≡ true
itself n = grind (arith, nat_tests)

-- a sum that fits
pub summed : (o : Option ℕ) (P : Type 0) (n k : ℕ) → SomeIff o P n → o ≡ Some k → k ≡ n
summed None P n k h e = absurd (cc)
summed (Some m) P n k h e = let same : m ≡ k = cc in sym same ∙ h.1

-- an event that the counts don't speak of
pub count_kept : (counts : List ℕ) (events : List Event) (ev : Event) → ((n : ℕ) → editors_behind n ev ≡ n) → ((e n : ℕ) → backlog_behind e n ev ≡ n) → BacklogsStand counts events → BacklogsStand counts (events ++ ev ∷ [])
count_kept counts events ev a b s = record {
  count = one_more editors_behind _ _ events ev s.count ∙ a (length counts);
  bytes = λ e. one_more (backlog_behind e) _ _ events ev (s.bytes e) ∙ b e (bytes_in (slice_get counts e));
}

pub joined_count : (counts : List ℕ) (events : List Event) (e : ℕ) → BacklogsStand counts events → BacklogsStand (counts ++ 0 ∷ []) (with_cause events (Joined e))
joined_count counts events e s = record {
  count = one_more editors_behind _ _ events (heard (Joined e)) s.count ∙ sym (length-append counts (0 ∷ []));
  bytes = λ j. one_more (backlog_behind j) _ _ events (heard (Joined e)) (s.bytes j) ∙ go j (compare (length counts) j);
}
  where
    past : (xs : List ℕ) → bytes_in (slice_get xs (length xs)) ≡ 0
    past [] = refl
    past (x ∷ xs) = past xs

    go : (j : ℕ) → Same (length counts) j → bytes_in (slice_get counts j) ≡ bytes_in (slice_get (counts ++ 0 ∷ []) j)
    go _ same = past counts ∙ ap bytes_in (sym (get_push_same counts 0))
    go j (other h) = ap bytes_in (sym (get_push_other counts 0 j h))

-- bytes to an editor were written
pub drained_count : (counts : List ℕ) (events : List Event) (e n k : ℕ) → slice_get counts e ≡ Some n → BacklogsStand counts events → BacklogsStand (slice_set counts e (n - k)) (with_cause events (Drained e k))
drained_count counts events e n k at s = record {
  count = one_more editors_behind _ _ events (heard (Drained e k)) s.count ∙ sym (length-set counts e (n - k));
  bytes = λ j. one_more (backlog_behind j) _ _ events (heard (Drained e k)) (s.bytes j) ∙ go j (compare e j);
}
  where
    go : (j : ℕ) → Same e j → backlog_behind j (bytes_in (slice_get counts j)) (heard (Drained e k)) ≡ bytes_in (slice_get (slice_set counts e (n - k)) j)
    go _ same = rw (itself e, get_set_same counts e (n - k) (slice_get_within counts e n at), at) refl
    go j (other h) = rw (ne_eqb e j (λ q. h (sym q)), get_set_other counts e j (n - k) h) refl

-- nothing was on its way to an editor that isn't linked
pub drained_nowhere : (counts : List ℕ) (events : List Event) (e k : ℕ) → bytes_in (slice_get counts e) ≡ 0 → BacklogsStand counts events → BacklogsStand counts (with_cause events (Drained e k))
drained_nowhere counts events e k at s = record {
  count = one_more editors_behind _ _ events (heard (Drained e k)) s.count;
  bytes = λ j. one_more (backlog_behind j) _ _ events (heard (Drained e k)) (s.bytes j) ∙ go j (compare e j);
}
  where
    go : (j : ℕ) → Same e j → backlog_behind j (bytes_in (slice_get counts j)) (heard (Drained e k)) ≡ bytes_in (slice_get counts j)
    go _ same = rw (itself e, at) (omega arith)
    go j (other h) = rw (ne_eqb e j (λ q. h (sym q))) refl

-- an editor's link ended
pub gone_count : (counts : List ℕ) (events : List Event) (e : ℕ) (why : Why) → BacklogsStand counts events → BacklogsStand (slice_set counts e 0) (with_cause events (EditorGone e why))
gone_count counts events e why s = record {
  count = one_more editors_behind _ _ events (heard (EditorGone e why)) s.count ∙ sym (length-set counts e 0);
  bytes = λ j. one_more (backlog_behind j) _ _ events (heard (EditorGone e why)) (s.bytes j) ∙ go j (compare e j);
}
  where
    emptied : (xs : List ℕ) (i : ℕ) → bytes_in (slice_get (slice_set xs i 0) i) ≡ 0
    emptied [] i = refl
    emptied (x ∷ xs) zero = refl
    emptied (x ∷ xs) (suc i) = emptied xs i

    go : (j : ℕ) → Same e j → backlog_behind j (bytes_in (slice_get counts j)) (heard (EditorGone e why)) ≡ bytes_in (slice_get (slice_set counts e 0) j)
    go _ same = rw (itself e) (sym (emptied counts e))
    go j (other h) = rw (ne_eqb e j (λ q. h (sym q)), get_set_other counts e j 0 h) refl

-- of one of which nothing was on its way
pub gone_nowhere : (counts : List ℕ) (events : List Event) (e : ℕ) (why : Why) → bytes_in (slice_get counts e) ≡ 0 → BacklogsStand counts events → BacklogsStand counts (with_cause events (EditorGone e why))
gone_nowhere counts events e why at s = record {
  count = one_more editors_behind _ _ events (heard (EditorGone e why)) s.count;
  bytes = λ j. one_more (backlog_behind j) _ _ events (heard (EditorGone e why)) (s.bytes j) ∙ go j (compare e j);
}
  where
    go : (j : ℕ) → Same e j → backlog_behind j (bytes_in (slice_get counts j)) (heard (EditorGone e why)) ≡ bytes_in (slice_get counts j)
    go _ same = rw (itself e) (sym at)
    go j (other h) = rw (ne_eqb e j (λ q. h (sym q))) refl

-- a body goes to an editor
pub sent_count : (counts : List ℕ) (events : List Event) (e n : ℕ) (body : List ℕ) → slice_get counts e ≡ Some n → BacklogsStand counts events → BacklogsStand (slice_set counts e (n + length body)) (events ++ said (ToEditor e body) ∷ [])
sent_count counts events e n body at s = record {
  count = one_more editors_behind _ _ events (said (ToEditor e body)) s.count ∙ sym (length-set counts e (n + length body));
  bytes = λ j. one_more (backlog_behind j) _ _ events (said (ToEditor e body)) (s.bytes j) ∙ go j (compare e j);
}
  where
    go : (j : ℕ) → Same e j → backlog_behind j (bytes_in (slice_get counts j)) (said (ToEditor e body)) ≡ bytes_in (slice_get (slice_set counts e (n + length body)) j)
    go _ same = rw (itself e, get_set_same counts e (n + length body) (slice_get_within counts e n at), at) refl
    go j (other h) = rw (ne_eqb e j (λ q. h (sym q)), get_set_other counts e j (n + length body) h) refl

-- an out more
pub behind_next : (base : List Event) (xs : List Out) (i : ℕ) (d : Out) → i < length xs → behind base (take (i + 1) xs) ≡ behind base (take i xs) ++ said (get_or xs i d) ∷ []
behind_next base xs i d h = ap (behind base) (take_more xs i d h) ∙ (ap (λ l. base ++ l) (map-append said (take i xs) (get_or xs i d ∷ [])) ∙ sym (append_assoc base (map said (take i xs)) (said (get_or xs i d) ∷ [])))

-- what is on its way to an editor
pub owed_some : (counts : List ℕ) (events : List Event) (e n k : ℕ) → slice_get counts e ≡ Some n → BacklogsStand counts events → nat_le k n ≡ nat_le k (backlog_of e events)
owed_some counts events e n k at s = ap (nat_le k) (sym (s.bytes e ∙ ap bytes_in at))

pub owed_none : (counts : List ℕ) (events : List Event) (e k : ℕ) → bytes_in (slice_get counts e) ≡ 0 → BacklogsStand counts events → nat_eq k 0 ≡ nat_le k (backlog_of e events)
owed_none counts events e k at s = zero_only k ∙ ap (nat_le k) (sym (s.bytes e ∙ at))
  where
    zero_only : (k : ℕ) → nat_eq k 0 ≡ nat_le k 0
    zero_only k = grind (arith, nat_tests)
