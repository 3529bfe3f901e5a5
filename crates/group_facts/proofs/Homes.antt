-- The group of an editor behind a cause that doesn't place it, nor end its link.
use Rattle.std.proofs.Common.{◌≡◌, ℕ, Bool, true, false, ◌&&◌, List, codes, nat_eq, refl, ◌∙◌, ap}
use Rattle.mux_history.specs.declared.cause.Cause.{Cause}
use Rattle.mux_history.specs.declared.cause.Cause.TheVariants.{Joined, FromEditor, EditorGone, Started, StartFailed, FromServer, ServerGone, Drained, Tick}
use Rattle.rpc_message.specs.Message.{Message, message_of}
use Rattle.event_model.specs.Event.{Event, heard, requests, with_cause}
use Rattle.event_model.specs.Phases.{desk_of, is_new}
use Rattle.event_model.specs.Settings.{Settings}
use Rattle.mux_facts.proofs.Words.{number_same}
use Rattle.group_words.specs.Houses.{home_of, places}
use Rattle.group_words.proofs.Frames.{home_more, home_stays}
use Rattle.group_facts.specs.Facts.{shuts}

-- one that isn't new places itself no more
module _ (settings : Settings) (before : List Event) (e : ℕ) (old : is_new (desk_of e before).phase ≡ false) where
  unplaced : (m : Message) → places (desk_of e before).phase m ≡ false
  unplaced m = ap (λ b. b && requests (codes "initialize") m) old

  pub heard_home : (n : ℕ) (body : List ℕ) → home_of settings e (with_cause before (FromEditor n body)) ≡ home_of settings e before
  heard_home n body = go (nat_eq n e) refl
    where
      go : (b : Bool) → nat_eq n e ≡ b → home_of settings e (with_cause before (FromEditor n body)) ≡ home_of settings e before
      go true same = let off : places (desk_of n before).phase (message_of body) ≡ false = ap (λ k. places (desk_of k before).phase (message_of body)) (number_same n e same) ∙ unplaced (message_of body) in home_more settings e before (heard (FromEditor n body)) ∙ rw (same, off) refl
      go false other = home_more settings e before (heard (FromEditor n body)) ∙ rw other refl

  pub took_home : (cause : Cause) → shuts cause e ≡ false → home_of settings e (with_cause before cause) ≡ home_of settings e before
  took_home (FromEditor n body) stays = heard_home n body
  took_home (EditorGone n why) stays = home_stays settings e before (heard (EditorGone n why)) stays
  took_home (Joined n) stays = home_stays settings e before (heard (Joined n)) refl
  took_home (Started n) stays = home_stays settings e before (heard (Started n)) refl
  took_home (StartFailed n) stays = home_stays settings e before (heard (StartFailed n)) refl
  took_home (FromServer n body) stays = home_stays settings e before (heard (FromServer n body)) refl
  took_home (ServerGone n) stays = home_stays settings e before (heard (ServerGone n)) refl
  took_home (Drained n k) stays = home_stays settings e before (heard (Drained n k)) refl
  took_home (Tick t) stays = home_stays settings e before (heard (Tick t)) refl
