-- One more frame, and one more piece.
use Rattle.std.proofs.Common.{◌≡◌, ℕ, List, [], ◌∷◌, ◌++◌, refl, sym, ap, ◌∙◌, subst, append_assoc, append-nil}
use Rattle.std.proofs.Common.{Option, Some, None}
use Rattle.std.specs.Io.KnownBytes.{append_known}
use Rattle.mux_history.specs.declared.cause.Why.{Why}
use Rattle.mux_history.specs.declared.cause.Why.TheVariants as why
use Rattle.base_frame.specs.Frames.{Splits, HasNoFrame, HasNoFault}
use Rattle.base_frame.specs.Laws.{FramesStay}
use Rattle.base_frame.specs.Reader.{Held, Stands}
use Rattle.lane_lists.specs.declared.item.Posted.{Posted}
use Rattle.lane_lists.specs.declared.item.Posted.TheVariants as posted
use Rattle.session_io.specs.declared.part.End.{End}
use Rattle.session_io.specs.declared.read.Frames.{Frames}
use Rattle.session_io.specs.declared.read.Frames.TheVariants as frames
use Rattle.session_io.specs.declared.read.Stop.{Stop}
use Rattle.session_io.specs.declared.read.Stop.TheVariants as stop
use Rattle.session_io.specs.Reads.{bodies, end_items, why_of, AllPosted, PostedFrames, PostedSoFar, ReadAs, ReadFrames, ReadSoFar, LostBy}

bodies_append : (a b : List (List ℕ)) → bodies (a ++ b) ≡ bodies a ++ bodies b
bodies_append [] b = refl
bodies_append (x ∷ a) b = ap (λ l. posted.Body x ∷ l) (bodies_append a b)

pub so_far_none : (r : Held) (posts : List Posted) → PostedSoFar r r posts posts
so_far_none r posts = record { more = []; limit = refl; posts = sym (append-nil posts); stands = λ fed given s. subst (λ (l : List (List ℕ)). Stands r fed l) (sym (append-nil given)) s }

pub so_far_more : (old mid new : Held) (before posts after : List Posted) (body : List ℕ) → PostedSoFar old mid before posts → new.limit ≡ mid.limit
    → ((fed : List ℕ) (given : List (List ℕ)) → Stands mid fed given → Stands new fed (given ++ body ∷ [])) → after ≡ posts ++ posted.Body body ∷ [] → PostedSoFar old new before after
so_far_more old mid new before posts after body f limit gives e = record {
  more = f.more ++ body ∷ [];
  limit = limit ∙ f.limit;
  posts = e ∙ ap (λ l. l ++ posted.Body body ∷ []) f.posts ∙ append_assoc before (bodies f.more) (posted.Body body ∷ []) ∙ ap (λ l. before ++ l) (sym (bodies_append f.more (body ∷ [])));
  stands = λ fed given s. subst (λ (l : List (List ℕ)). Stands new fed l) (append_assoc given f.more (body ∷ [])) (gives fed (given ++ f.more) (f.stands fed given s));
}

pub cut_here : (old new : Held) (before after : List Posted) → PostedSoFar old new before after → PostedFrames old new before after frames.Cut
cut_here old new before after f = record {
  more = f.more;
  lost = [];
  losses = tt;
  limit = f.limit;
  posts = f.posts;
  stands = λ fed given s. subst (λ (l : List (List ℕ)). Stands new fed (given ++ l)) (sym (append-nil f.more)) (f.stands fed given s);
  all = λ fed given s. tt;
}

pub cut_lost : (old mid new : Held) (before after : List Posted) (body : List ℕ) → PostedSoFar old mid before after → new.limit ≡ mid.limit
    → ((fed : List ℕ) (given : List (List ℕ)) → Stands mid fed given → Stands new fed (given ++ body ∷ [])) → PostedFrames old new before after frames.Cut
cut_lost old mid new before after body f limit gives = record {
  more = f.more;
  lost = body ∷ [];
  losses = tt;
  limit = limit ∙ f.limit;
  posts = f.posts;
  stands = λ fed given s. subst (λ (l : List (List ℕ)). Stands new fed l) (append_assoc given f.more (body ∷ [])) (gives fed (given ++ f.more) (f.stands fed given s));
  all = λ fed given s. tt;
}

none_lost : (result : Frames) → LostBy result []
none_lost frames.Short = refl
none_lost frames.Bad = refl
none_lost frames.Cut = tt

pub all_here : (old mid new : Held) (before after : List Posted) (result : Frames) → PostedSoFar old mid before after → new.limit ≡ mid.limit
    → ((fed : List ℕ) (given : List (List ℕ)) → Stands mid fed given → Stands new fed given) → ((fed : List ℕ) (given : List (List ℕ)) → Stands mid fed given → AllPosted mid.limit fed given result)
    → PostedFrames old new before after result
all_here old mid new before after result f limit stays all = record {
  more = f.more;
  lost = [];
  losses = none_lost result;
  limit = limit ∙ f.limit;
  posts = f.posts;
  stands = λ fed given s. subst (λ (l : List (List ℕ)). Stands new fed (given ++ l)) (sym (append-nil f.more)) (stays fed (given ++ f.more) (f.stands fed given s));
  all = λ fed given s. subst (λ (n : ℕ). AllPosted n fed (given ++ f.more) result) f.limit (all fed (given ++ f.more) (f.stands fed given s));
}

pub known_none : (t : Option (List ℕ)) → t ≡ append_known t []
known_none None = refl
known_none (Some xs) = ap Some (sym (append-nil xs))

pub known_more : (t : Option (List ℕ)) (a b : List ℕ) → append_known (append_known t a) b ≡ append_known t (a ++ b)
known_more None a b = refl
known_more (Some xs) a b = ap Some (append_assoc xs a b)

-- no bytes are no frame, and have no fault
not_empty : {A : Type 0} (xs : List A) (y : A) (ys zs : List A) → [] ≡ (xs ++ y ∷ ys) ++ zs → ⊥
not_empty [] y ys zs e = absurd (cc)
not_empty (x ∷ xs) y ys zs e = absurd (cc)

no_frame : (limit : ℕ) → HasNoFrame limit []
no_frame limit c more f = not_empty f.header.0.0 13 (10 ∷ []) (c ++ more) (f.bytes ∙ ap (λ l. l ++ (c ++ more)) f.header.0.1)

no_fault : (limit : ℕ) → HasNoFault limit []
no_fault limit at why f = not_empty f.front f.byte f.rest [] (f.bytes ∙ sym (append-nil (f.front ++ f.byte ∷ f.rest)))

pub read_start : (limit : ℕ) (r : Held) (t : Option (List ℕ)) (posts : List Posted) → r.limit ≡ limit → Stands r [] [] → ReadSoFar limit r t t posts posts
read_start limit r t posts e s = record { fed = []; given = []; read = known_none t; limit_is = e; stands = s; posted = sym (append-nil posts); all = ([], (refl, no_frame limit), no_fault limit) }

-- nothing was read
pub read_nothing : (limit : ℕ) (t left : Option (List ℕ)) (before now : ℕ) (posts : List Posted) → ReadAs limit t t left before now posts posts stop.Cut
read_nothing limit t left before now posts = record { fed = []; given = []; lost = []; rest = []; read = known_none t; splits = refl; posted = sym (append-nil posts); stopped = tt }

-- a piece was fed, and its frames were posted
module _ (limit : ℕ) (r r2 r3 : Held) (t t1 t2 : Option (List ℕ)) (posts posts1 posts2 : List Posted) (piece : List ℕ) where
  pub read_more : ReadSoFar limit r t t1 posts posts1 → ((fed : List ℕ) (given : List (List ℕ)) → Stands r fed given → Stands r2 (fed ++ piece) given) → r2.limit ≡ r.limit → t2 ≡ append_known t1 piece
      → PostedFrames r2 r3 posts1 posts2 frames.Short → ReadSoFar limit r3 t t2 posts posts2
  read_more f fed_on same e p =
      let s = fed_on f.fed f.given f.stands in record {
        fed = f.fed ++ piece;
        given = f.given ++ p.more;
        read = e ∙ ap (λ x. append_known x piece) f.read ∙ known_more t f.fed piece;
        limit_is = p.limit ∙ same ∙ f.limit_is;
        stands = subst (λ (l : List (List ℕ)). Stands r3 (f.fed ++ piece) (f.given ++ l)) (ap (λ l. p.more ++ l) p.losses ∙ append-nil p.more) (p.stands (f.fed ++ piece) f.given s);
        posted = p.posts ∙ ap (λ l. l ++ bodies p.more) f.posted ∙ append_assoc posts (bodies f.given) (bodies p.more) ∙ ap (λ l. posts ++ l) (sym (bodies_append f.given p.more));
        all = subst (λ (n : ℕ). AllPosted n (f.fed ++ piece) (f.given ++ p.more) frames.Short) (same ∙ f.limit_is) (p.all (f.fed ++ piece) f.given s);
      }

  -- it ended there
  pub read_bad : (left : Option (List ℕ)) (before now : ℕ) → ReadSoFar limit r t t1 posts posts1 → ((fed : List ℕ) (given : List (List ℕ)) → Stands r fed given → Stands r2 (fed ++ piece) given) → r2.limit ≡ r.limit → t2 ≡ append_known t1 piece
      → PostedFrames r2 r3 posts1 posts2 frames.Bad → ReadFrames limit t t2 left before now posts posts2 (stop.Ended why.BadFrame)
  read_bad left before now f fed_on same e p =
      let s = fed_on f.fed f.given f.stands in
      let all = subst (λ (n : ℕ). AllPosted n (f.fed ++ piece) (f.given ++ p.more) frames.Bad) (same ∙ f.limit_is) (p.all (f.fed ++ piece) f.given s) in record {
        fed = f.fed ++ piece;
        given = f.given ++ p.more;
        lost = [];
        rest = all.0;
        read = e ∙ ap (λ x. append_known x piece) f.read ∙ known_more t f.fed piece;
        splits = subst (λ (l : List (List ℕ)). Splits limit (f.fed ++ piece) l all.0) (sym (append-nil (f.given ++ p.more))) all.1.0;
        posted = p.posts ∙ ap (λ l. l ++ bodies p.more) f.posted ∙ append_assoc posts (bodies f.given) (bodies p.more) ∙ ap (λ l. posts ++ l) (sym (bodies_append f.given p.more));
        stopped = all;
      }

  pub read_cut : (left : Option (List ℕ)) (before now : ℕ) → ReadSoFar limit r t t1 posts posts1 → ((fed : List ℕ) (given : List (List ℕ)) → Stands r fed given → Stands r2 (fed ++ piece) given) → r2.limit ≡ r.limit → t2 ≡ append_known t1 piece
      → PostedFrames r2 r3 posts1 posts2 frames.Cut → ReadFrames limit t t2 left before now posts posts2 stop.Cut
  read_cut left before now f fed_on same e p =
      let s = p.stands (f.fed ++ piece) f.given (fed_on f.fed f.given f.stands) in record {
        fed = f.fed ++ piece;
        given = f.given ++ p.more;
        lost = p.lost ++ r3.ready;
        rest = s.0;
        read = e ∙ ap (λ x. append_known x piece) f.read ∙ known_more t f.fed piece;
        splits =
            let shape : (f.given ++ (p.more ++ p.lost)) ++ r3.ready ≡ (f.given ++ p.more) ++ (p.lost ++ r3.ready) =
            ap (λ l. l ++ r3.ready) (sym (append_assoc f.given p.more p.lost)) ∙ append_assoc (f.given ++ p.more) p.lost r3.ready in
            let one : Splits r3.limit (f.fed ++ piece) ((f.given ++ p.more) ++ (p.lost ++ r3.ready)) s.0 = subst (λ (l : List (List ℕ)). Splits r3.limit (f.fed ++ piece) l s.0) shape s.1 in
            subst (λ (n : ℕ). Splits n (f.fed ++ piece) ((f.given ++ p.more) ++ (p.lost ++ r3.ready)) s.0) (p.limit ∙ same ∙ f.limit_is) one;
        posted = p.posts ∙ ap (λ l. l ++ bodies p.more) f.posted ∙ append_assoc posts (bodies f.given) (bodies p.more) ∙ ap (λ l. posts ++ l) (sym (bodies_append f.given p.more));
        stopped = tt;
      }

-- a piece was read and not fed
module _ (limit : ℕ) (r : Held) (t t1 t2 left : Option (List ℕ)) (before now : ℕ) (posts posts1 : List Posted) (piece : List ℕ) (stay : FramesStay) where
  pub read_unfed : ReadSoFar limit r t t1 posts posts1 → t2 ≡ append_known t1 piece → ReadFrames limit t t2 left before now posts posts1 stop.Cut
  read_unfed f e = record {
    fed = f.fed ++ piece;
    given = f.given;
    lost = [];
    rest = f.all.0 ++ piece;
    read = e ∙ ap (λ x. append_known x piece) f.read ∙ known_more t f.fed piece;
    splits = subst (λ (l : List (List ℕ)). Splits limit (f.fed ++ piece) l (f.all.0 ++ piece)) (sym (append-nil f.given)) (stay limit f.fed piece f.given f.all.0 f.all.1.0);
    posted = f.posted;
    stopped = tt;
  }

  pub read_told : (how : End) → ReadSoFar limit r t t1 posts posts1 → t2 ≡ append_known t1 piece → ReadFrames limit t t2 left before now posts posts1 (stop.Told how)
  read_told how f e = record {
    fed = f.fed ++ piece;
    given = f.given;
    lost = [];
    rest = f.all.0 ++ piece;
    read = e ∙ ap (λ x. append_known x piece) f.read ∙ known_more t f.fed piece;
    splits = subst (λ (l : List (List ℕ)). Splits limit (f.fed ++ piece) l (f.all.0 ++ piece)) (sym (append-nil f.given)) (stay limit f.fed piece f.given f.all.0 f.all.1.0);
    posted = f.posted;
    stopped = tt;
  }

-- how it ended is posted behind the frames
module _ (limit : ℕ) (t t' left : Option (List ℕ)) (before now : ℕ) (posts posts1 posts2 : List Posted) where
  ended_by : (result : Stop) (items : List Posted) → end_items (why_of result) ≡ items → ReadFrames limit t t' left before now posts posts1 result → posts2 ≡ posts1 ++ items → ReadAs limit t t' left before now posts posts2 result
  ended_by result items w f e = record {
    fed = f.fed;
    given = f.given;
    lost = f.lost;
    rest = f.rest;
    read = f.read;
    splits = f.splits;
    posted = e ∙ (ap (λ l. l ++ items) f.posted ∙ (append_assoc posts (bodies f.given) items ∙ ap (λ l. posts ++ (bodies f.given ++ l)) (sym w)));
    stopped = f.stopped;
  }

  pub read_ended : (result : Stop) (w : Why) → Some w ≡ why_of result → ReadFrames limit t t' left before now posts posts1 result → posts2 ≡ posts1 ++ posted.Ended w ∷ [] → ReadAs limit t t' left before now posts posts2 result
  read_ended result w is f e = ended_by result (posted.Ended w ∷ []) (ap end_items (sym is)) f e

  -- what is left out of a stop says nothing of it
  pub read_lost : (result : Stop) → ReadFrames limit t t' left before now posts posts1 result → posts2 ≡ posts1 → ReadAs limit t t' left before now posts posts2 stop.Cut
  read_lost result f e = record {
    fed = f.fed;
    given = f.given;
    lost = f.lost;
    rest = f.rest;
    read = f.read;
    splits = f.splits;
    posted = e ∙ (f.posted ∙ ap (λ l. posts ++ l) (sym (append-nil (bodies f.given))));
    stopped = tt;
  }
