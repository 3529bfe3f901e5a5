-- What a lane of servers shows from some deed on: what is left of the start that is up, and then the starts that are tried later.
use Rattle.std.proofs.Common.{◌≡◌, ◌≢◌, ℕ, ◌==◌, List, [], ◌∷◌, ◌++◌, Bool, true, false, if◌then◌else◌, map, refl, sym, ap, ◌∙◌, subst, inl, inr, ⊎_elim, arith, Option}
use Rattle.std.specs.declared.option.Option.TheVariants.{Some, None}
use Rattle.mux_history.specs.declared.entry.Entry.{Entry}
use Rattle.mux_history.specs.declared.out.Out.{Out}
use Rattle.mux_history.specs.declared.cause.Cause.{Cause}
use Rattle.mux_history.specs.declared.cause.Cause.TheVariants as cause
use Rattle.mux_history.specs.declared.cause.Why.{Why}
use Rattle.mux_history.specs.declared.cause.Why.TheVariants as why
use Rattle.lane_lists.specs.declared.item.Posted.{Posted}
use Rattle.lane_lists.specs.declared.item.Posted.TheVariants as posted
use Rattle.lane_lists.specs.declared.item.Side.TheVariants as side
use Rattle.lane_lists.specs.declared.item.Item.{Item}
use Rattle.lane_lists.specs.declared.item.Item.TheVariants as item
use Rattle.lane_lists.specs.Seats.{is_now}
use Rattle.lane_lists.specs.Sessions.{chain}
use Rattle.lane_lists.specs.History.{Late, AllZip}
use Rattle.lane_lists.specs.Starts.{start_of}
use Rattle.lane_lists.specs.StartHistory.{cause_from, causes_from, went_in, StartHeard, CameUp, Failed, StartPart}
use Rattle.lane_lists.specs.StartHistory as starts
use Rattle.lane_lists.proofs.Ahead.{zip_map, no_late}
use Rattle.lane_lists.proofs.ByOrders.{is_now_is}

-- the items left of the start that is up, and where there is none the late ones
abbrev pub Opened : List Entry → (ℕ → List Item) → Option ℕ → Bool → List Posted → Type 0
Opened history by None tail front = Late front × (tail ≡ false → front ≡ [])
Opened history by (Some s) tail front = StartHeard (causes_from s history) (by s) s front

pub record StartAhead (held : Option ℕ) (tail : Bool) (history : List Entry) (by : ℕ → List Item) (items : List Posted) (ids : List ℕ) : Type 0 where
  pub front : List Posted
  pub made : List (List Posted)
  pub is : items ≡ front ++ chain made
  pub opened : Opened history by held tail front
  pub each : AllZip (StartPart history by) ids made

-- causes of a start that is still to be tried
abbrev pub is_try : Cause → Bool
is_try (cause.Started s) = true
is_try (cause.StartFailed s) = true
is_try (cause.FromServer s body) = false
is_try (cause.ServerGone s) = false
is_try (cause.Joined e) = false
is_try (cause.FromEditor e body) = false
is_try (cause.EditorGone e w) = false
is_try (cause.Drained e k) = false
is_try (cause.Tick t) = false

abbrev pub untried : List Cause → Bool
untried [] = false
untried (c ∷ cs) = is_try c

part_untried : (history : List Entry) (by : ℕ → List Item) (s : ℕ) (part : List Posted) → StartPart history by s part → untried (causes_from s history) ≡ true
part_untried history by s part p = ⊎_elim (λ f. ap untried f.says) (λ c. ap untried c.says) p

tried_words : (s : ℕ) (bodies : List (List ℕ)) (gone : List Cause) → untried gone ≡ false → untried (map (λ body. cause.FromServer s body) bodies ++ gone) ≡ false
tried_words s [] gone g = g
tried_words s (b ∷ bodies) gone g = refl

pub heard_tried : (causes : List Cause) (by : List Item) (s : ℕ) (items : List Posted) → StartHeard causes by s items → untried causes ≡ false
heard_tried causes by s items h = ap untried h.says ∙ tried_words s h.bodies h.gone (⊎_elim (λ e. ap untried e.0) (λ e. ap untried e.0) h.ends)

-- a cause that is of another start, or of none
pub cause_other : (s : ℕ) (c : Cause) → (start_of c ≡ Some s → ⊥) → cause_from s c ≡ []
cause_other s c off = (elim (is_now (start_of c) s) as (λ b. is_now (start_of c) s ≡ b → (if b then c ∷ [] else []) ≡ []) [
  | true ↦ λ is. absurd (off (is_now_is (start_of c) s is))
  | false ↦ λ is. refl
]) refl

-- such a cause tells of no start how it went, and the cause that a start went tells by which item
pub unwent : (s : ℕ) (x : Item) (c : Cause) → cause_from s c ≡ [] → went_in s x c ≡ []
unwent s x (cause.ServerGone n) off = (elim (n == s) as (λ b. (if b then cause.ServerGone n ∷ [] else []) ≡ [] → (if b then x ∷ [] else []) ≡ []) [
  | true ↦ λ h. absurd cc
  | false ↦ λ h. refl
]) off
unwent s x (cause.Started n) off = refl
unwent s x (cause.StartFailed n) off = refl
unwent s x (cause.FromServer n body) off = refl
unwent s x (cause.Joined e) off = refl
unwent s x (cause.FromEditor e body) off = refl
unwent s x (cause.EditorGone e w) off = refl
unwent s x (cause.Drained e k) off = refl
unwent s x (cause.Tick t) off = refl

went_own : (s : ℕ) (x : Item) (more : List Item) → more ≡ [] → went_in s x (cause.ServerGone s) ++ more ≡ x ∷ []
went_own s x more none = let self : is_now (Some s) s ≡ true = grind arith in ap (λ (b : Bool). (if b then x ∷ [] else []) ++ more) self ∙ ap (λ l. x ∷ l) none

abbrev pub went_on : Item → Cause → (ℕ → List Item) → ℕ → List Item
went_on x c by s = went_in s x c ++ by s

heard_hush : (x : Item) (c : Cause) (causes : List Cause) (by : ℕ → List Item) (s : ℕ) (items : List Posted) → cause_from s c ≡ [] → StartHeard causes (by s) s items → StartHeard causes (went_on x c by s) s items
heard_hush x c causes by s items hush h = subst (λ l. StartHeard causes l s items) (sym (ap (λ l. l ++ by s) (unwent s x c hush))) h

part_hush : (x : Item) (c : Cause) (outs : List Out) (history : List Entry) (by : ℕ → List Item) (s : ℕ) (part : List Posted) → cause_from s c ≡ [] → StartPart history by s part → StartPart (record { cause = c; outs = outs } ∷ history) (went_on x c by) s part
part_hush x c outs history by s part hush p =
    let same : causes_from s (record { cause = c; outs = outs } ∷ history) ≡ causes_from s history = ap (λ cs. cs ++ causes_from s history) hush in
    ⊎_elim
    (λ (f : Failed history s part). inl (record { says = same ∙ f.says; is = f.is }))
    (λ (u : CameUp history by s part). inr (record { causes = u.causes; items = u.items; says = same ∙ u.says; is = u.is; heard = heard_hush x c u.causes by s u.items hush u.heard }))
    p

pub each_hush : (x : Item) (c : Cause) (outs : List Out) (history : List Entry) (by : ℕ → List Item) (ids : List ℕ) (made : List (List Posted)) → ((s : ℕ) → start_of c ≡ Some s → untried (causes_from s history) ≡ false)
    → AllZip (StartPart history by) ids made → AllZip (StartPart (record { cause = c; outs = outs } ∷ history) (went_on x c by)) ids made
each_hush x c outs history by ids made past z =
    zip_map (StartPart history by) (StartPart (record { cause = c; outs = outs } ∷ history) (went_on x c by)) ids made
    (λ s part p. part_hush x c outs history by s part (cause_other s c (λ is. let f : true ≡ false = sym (part_untried history by s part p) ∙ past s is in absurd cc)) p) z

-- an entry that isn't of this lane
pub ahead_other : (held : Option ℕ) (tail : Bool) (x : Item) (c : Cause) (outs : List Out) (history : List Entry) (by : ℕ → List Item) (items : List Posted) (ids : List ℕ) → ((s : ℕ) → start_of c ≡ Some s → untried (causes_from s history) ≡ false)
    → ((s : ℕ) → held ≡ Some s → cause_from s c ≡ []) → StartAhead held tail history by items ids → StartAhead held tail (record { cause = c; outs = outs } ∷ history) (went_on x c by) items ids
ahead_other None tail x c outs history by items ids past mine a = record { front = a.front; made = a.made; is = a.is; opened = a.opened; each = each_hush x c outs history by ids a.made past a.each }
ahead_other (Some s) tail x c outs history by items ids past mine a =
    let h : StartHeard (causes_from s history) (went_on x c by s) s a.front = heard_hush x c (causes_from s history) by s a.front (mine s refl) a.opened in record {
      front = a.front;
      made = a.made;
      is = a.is;
      opened = record { bodies = h.bodies; gone = h.gone; rest = h.rest; says = ap (λ cs. cs ++ causes_from s history) (mine s refl) ∙ h.says; is = h.is; ends = h.ends };
      each = each_hush x c outs history by ids a.made past a.each;
    }

own_cause : (s : ℕ) (c : Cause) (more : List Cause) → start_of c ≡ Some s → cause_from s c ++ more ≡ c ∷ more
own_cause s c more is = (elim (is_now (start_of c) s) as (λ b. is_now (start_of c) s ≡ b → (if b then c ∷ [] else []) ++ more ≡ c ∷ more) [
  | true ↦ λ t. refl
  | false ↦ λ f. let t : is_now (Some s) s ≡ true = grind arith in let g : true ≡ false = sym t ∙ ap (λ o. is_now o s) (sym is) ∙ f in absurd cc
]) refl

-- the entry's start is tried no more
own_past : (c : Cause) (s : ℕ) (history : List Entry) → start_of c ≡ Some s → untried (causes_from s history) ≡ false → (t : ℕ) → start_of c ≡ Some t → untried (causes_from t history) ≡ false
own_past c s history is f t there = let same : Some s ≡ Some t = sym is ∙ there in let eq : s ≡ t = cc in subst (λ (n : ℕ). untried (causes_from n history) ≡ false) eq f

-- a start that comes up
pub ahead_up : (s : ℕ) (tail : Bool) (outs : List Out) (history : List Entry) (by : ℕ → List Item) (items : List Posted) (ids : List ℕ) → StartAhead (Some s) tail history by items ids
    → StartAhead None false (record { cause = cause.Started s; outs = outs } ∷ history) (went_on (item.Posted posted.Up) (cause.Started s) by) (posted.Up ∷ items) (s ∷ ids)
ahead_up s tail outs history by items ids a =
    let h : StartHeard (causes_from s history) (by s) s a.front = a.opened in record {
      front = [];
      made = (posted.Up ∷ a.front) ∷ a.made;
      is = ap (λ l. posted.Up ∷ l) a.is;
      opened = (no_late, λ _. refl);
      each = (
        inr (record { causes = causes_from s history; items = a.front; says = own_cause s (cause.Started s) (causes_from s history) refl; is = refl; heard = h }),
        each_hush (item.Posted posted.Up) (cause.Started s) outs history by ids a.made (own_past (cause.Started s) s history refl (heard_tried (causes_from s history) (by s) s a.front h)) a.each,
      );
    }

-- a start that fails
pub ahead_failed : (s : ℕ) (outs : List Out) (history : List Entry) (by : ℕ → List Item) (items : List Posted) (ids : List ℕ) → causes_from s history ≡ [] → StartAhead None false history by items ids
    → StartAhead None false (record { cause = cause.StartFailed s; outs = outs } ∷ history) (went_on (item.Posted posted.NoStart) (cause.StartFailed s) by) (posted.NoStart ∷ items) (s ∷ ids)
ahead_failed s outs history by items ids quiet a = record {
  front = [];
  made = (posted.NoStart ∷ []) ∷ a.made;
  is = ap (λ l. posted.NoStart ∷ l) (a.is ∙ ap (λ l. l ++ chain a.made) (a.opened.1 refl));
  opened = (no_late, λ _. refl);
  each = (
    inl (record { says = own_cause s (cause.StartFailed s) (causes_from s history) refl ∙ ap (λ cs. cause.StartFailed s ∷ cs) quiet; is = refl }),
    each_hush (item.Posted posted.NoStart) (cause.StartFailed s) outs history by ids a.made (own_past (cause.StartFailed s) s history refl (ap untried quiet)) a.each,
  );
}

-- a body
pub ahead_word : (s : ℕ) (tail : Bool) (body : List ℕ) (outs : List Out) (history : List Entry) (by : ℕ → List Item) (items : List Posted) (ids : List ℕ) → StartAhead (Some s) tail history by items ids
    → StartAhead (Some s) tail (record { cause = cause.FromServer s body; outs = outs } ∷ history) (went_on (item.Posted (posted.Body body)) (cause.FromServer s body) by) (posted.Body body ∷ items) ids
ahead_word s tail body outs history by items ids a =
    let h : StartHeard (causes_from s history) (by s) s a.front = a.opened in record {
      front = posted.Body body ∷ a.front;
      made = a.made;
      is = ap (λ l. posted.Body body ∷ l) a.is;
      opened = record {
        bodies = body ∷ h.bodies;
        gone = h.gone;
        rest = h.rest;
        says = own_cause s (cause.FromServer s body) (causes_from s history) refl ∙ ap (λ cs. cause.FromServer s body ∷ cs) h.says;
        is = ap (λ l. posted.Body body ∷ l) h.is;
        ends = h.ends;
      };
      each = each_hush (item.Posted (posted.Body body)) (cause.FromServer s body) outs history by ids a.made (own_past (cause.FromServer s body) s history refl (heard_tried (causes_from s history) (by s) s a.front h)) a.each;
    }

-- its end
pub ahead_over : (s : ℕ) (tail : Bool) (w : Why) (real : w ≢ why.WriteFault) (outs : List Out) (history : List Entry) (by : ℕ → List Item) (items : List Posted) (ids : List ℕ) → causes_from s history ≡ [] → by s ≡ [] → StartAhead None false history by items ids
    → StartAhead (Some s) tail (record { cause = cause.ServerGone s; outs = outs } ∷ history) (went_on (item.Posted (posted.Ended w)) (cause.ServerGone s) by) (posted.Ended w ∷ items) ids
ahead_over s tail w real outs history by items ids quiet mute a = record {
  front = posted.Ended w ∷ [];
  made = a.made;
  is = ap (λ l. posted.Ended w ∷ l) (a.is ∙ ap (λ l. l ++ chain a.made) (a.opened.1 refl));
  opened = record {
    bodies = [];
    gone = cause.ServerGone s ∷ [];
    rest = posted.Ended w ∷ [];
    says = own_cause s (cause.ServerGone s) (causes_from s history) refl ∙ ap (λ cs. cause.ServerGone s ∷ cs) quiet;
    is = refl;
    ends = inr (refl, starts.ended w real (went_own s (item.Posted (posted.Ended w)) (by s) mute) refl);
  };
  each = each_hush (item.Posted (posted.Ended w)) (cause.ServerGone s) outs history by ids a.made (own_past (cause.ServerGone s) s history refl (ap untried quiet)) a.each;
}

-- a failed write
pub ahead_broke : (s : ℕ) (tail : Bool) (outs : List Out) (history : List Entry) (by : ℕ → List Item) (items : List Posted) (ids : List ℕ) → causes_from s history ≡ [] → by s ≡ [] → StartAhead None true history by items ids
    → StartAhead (Some s) tail (record { cause = cause.ServerGone s; outs = outs } ∷ history) (went_on (item.Side side.Broke) (cause.ServerGone s) by) items ids
ahead_broke s tail outs history by items ids quiet mute a = record {
  front = a.front;
  made = a.made;
  is = a.is;
  opened = record {
    bodies = [];
    gone = cause.ServerGone s ∷ [];
    rest = a.front;
    says = own_cause s (cause.ServerGone s) (causes_from s history) refl ∙ ap (λ cs. cause.ServerGone s ∷ cs) quiet;
    is = refl;
    ends = inr (refl, starts.broke (went_own s (item.Side side.Broke) (by s) mute) a.opened.0);
  };
  each = each_hush (item.Side side.Broke) (cause.ServerGone s) outs history by ids a.made (own_past (cause.ServerGone s) s history refl (ap untried quiet)) a.each;
}

-- late items
pub ahead_late : (body : List ℕ) (history : List Entry) (by : ℕ → List Item) (items : List Posted) (ids : List ℕ) → StartAhead None true history by items ids → StartAhead None true history by (posted.Body body ∷ items) ids
ahead_late body history by items ids a =
    let l = a.opened.0 in record {
      front = posted.Body body ∷ a.front;
      made = a.made;
      is = ap (λ l. posted.Body body ∷ l) a.is;
      opened = (record { bodies = body ∷ l.bodies; ends = l.ends; is = ap (λ l. posted.Body body ∷ l) l.is; one = l.one }, λ e. absurd cc);
      each = a.each;
    }

pub ahead_late_end : (w : Why) (history : List Entry) (by : ℕ → List Item) (items : List Posted) (ids : List ℕ) → StartAhead None false history by items ids → StartAhead None true history by (posted.Ended w ∷ items) ids
ahead_late_end w history by items ids a = record {
  front = posted.Ended w ∷ [];
  made = a.made;
  is = ap (λ l. posted.Ended w ∷ l) (a.is ∙ ap (λ l. l ++ chain a.made) (a.opened.1 refl));
  opened = (record { bodies = []; ends = w ∷ []; is = refl; one = omega arith }, λ e. absurd cc);
  each = a.each;
}
