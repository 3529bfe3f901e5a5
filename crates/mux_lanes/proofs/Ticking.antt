-- One moment more.
use Rattle.std.proofs.Common.{◌≡◌, ℕ, List, [], ◌∷◌, ◌++◌, map, refl, sym, ap, ◌∙◌, ◌⊎◌, ⊎_elim, arith, append_assoc, append-nil}
use Rattle.std.specs.Prelude.{Option, IfSome}
use Rattle.std.proofs.lemmas.List.{map-append}
use Rattle.outside_io.specs.Told.{append_to, prepend_to}
use Rattle.lane_lists.specs.declared.item.Posted.{Posted}
use Rattle.lane_lists.specs.declared.item.Posted.TheVariants as posted
use Rattle.mux_lanes.specs.declared.lane_end.LaneEnd.{LaneEnd}
use Rattle.mux_lanes.specs.declared.lane_end.LaneEnd.TheVariants as lane_end
use Rattle.mux_lanes.specs.Ticks.{TickedAs, TickedSoFar}
use Rattle.mux_lanes.proofs.Told.{appended_none, prepended_none, appended_more, prepended_more}

pub no_tick : (given left : Option (List ℕ)) (posts : List Posted) → TickedSoFar given given left left posts posts
no_tick given left posts = record { ticks = []; given_are = appended_none given; left_are = prepended_none left; posted = sym (append-nil posts) }

module _ (given given' given'' left left' left'' : Option (List ℕ)) (posts posts' posts'' : List Posted) where
  pub tick_more : (t : ℕ) → TickedSoFar given given' left left' posts posts' → given'' ≡ append_to given' (t ∷ []) → left' ≡ prepend_to (t ∷ []) left'' → posts'' ≡ posts' ++ posted.Tick t ∷ []
      → TickedSoFar given given'' left left'' posts posts''
  tick_more t f e g h = record {
    ticks = f.ticks ++ t ∷ [];
    given_are = e ∙ ap (λ x. append_to x (t ∷ [])) f.given_are ∙ appended_more given f.ticks (t ∷ []);
    left_are = f.left_are ∙ ap (prepend_to f.ticks) g ∙ prepended_more left'' f.ticks (t ∷ []);
    posted = h ∙ ap (λ l. l ++ posted.Tick t ∷ []) f.posted ∙ append_assoc posts (map posted.Tick f.ticks) (posted.Tick t ∷ []) ∙ ap (λ l. posts ++ l) (sym (map-append posted.Tick f.ticks (t ∷ [])));
  }

  pub tick_refused : (t : ℕ) → TickedSoFar given given' left left' posts posts' → given'' ≡ append_to given' (t ∷ []) → left' ≡ prepend_to (t ∷ []) left'' → posts'' ≡ posts'
      → TickedAs given given'' left left'' posts posts'' lane_end.Cut
  tick_refused t f e g h = record {
    ticks = f.ticks;
    refused = t ∷ [];
    given_are = e ∙ ap (λ x. append_to x (t ∷ [])) f.given_are ∙ appended_more given f.ticks (t ∷ []);
    left_are = f.left_are ∙ ap (prepend_to f.ticks) g ∙ prepended_more left'' f.ticks (t ∷ []);
    posted = h ∙ f.posted;
    one = omega arith;
    whole = λ x. absurd (x refl);
    through = λ x. absurd cc;
  }

module _ (given given' left left' : Option (List ℕ)) (posts posts' : List Posted) where
  pub ticks_over : (end : LaneEnd) → (end ≡ lane_end.Stopped) ⊎ (end ≡ lane_end.Over) → TickedSoFar given given' left left' posts posts' → TickedAs given given' left left' posts posts' end
  ticks_over end how f = record {
    ticks = f.ticks;
    refused = [];
    given_are = f.given_are ∙ ap (append_to given) (sym (append-nil f.ticks));
    left_are = f.left_are ∙ ap (λ l. prepend_to l left') (sym (append-nil f.ticks));
    posted = f.posted;
    one = omega arith;
    whole = λ x. refl;
    through = λ x. ⊎_elim (λ s. absurd cc) (λ o. absurd cc) how;
  }

  pub ticks_through : TickedSoFar given given' left left' posts posts' → IfSome left' (λ moments. moments ≡ []) → TickedAs given given' left left' posts posts' lane_end.Through
  ticks_through f none = record {
    ticks = f.ticks;
    refused = [];
    given_are = f.given_are ∙ ap (append_to given) (sym (append-nil f.ticks));
    left_are = f.left_are ∙ ap (λ l. prepend_to l left') (sym (append-nil f.ticks));
    posted = f.posted;
    one = omega arith;
    whole = λ x. refl;
    through = λ x. none;
  }
