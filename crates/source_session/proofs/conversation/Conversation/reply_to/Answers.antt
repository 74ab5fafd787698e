use Rattle.std.proofs.Common.{◌≡◌, ◌⊎◌, false, rules, sym, ap, ◌∙◌, subst}
use Rattle.source_session.proofs.Common.{unwrap_or, object_held, outcome_view, reply_view, IsOutcome, IsReplyUnless, IsWanting, asked_of, id_value}
use Rattle.serde_json.specs.declared.value.Value.{Null, the_lemmas}
use Rattle.serde_json.specs.Data.{null}
use Rattle.serde_json.specs.View.{view}
use Rattle.serde_json.specs.Written.{has_float}
use Rattle.source_session.proofs.Readings.{asked_no_id, view_or_null}
use Rattle.source_session.proofs.conversation.Conversation.reply_to.Goals as goal

pub returns-clause-reply : goal.returns-clause-reply
returns-clause-reply c =
    let old = c.args.self.now in
    let new = c.ask-outcome.new.self in
    let d = object_held c.args.members in
    let outcome = outcome_view c.ask-outcome.result in
    let none : view Null ≡ null = search (rules, the_lemmas) in
    let id : view c.unwrap_or-id.result ≡ id_value d = ap view c.unwrap_or-id.ensures ∙ view_or_null c.take_member.result Null none ∙ ap (λ o. unwrap_or o null) c.take_member.ensures.taken in
    let plain : has_float (id_value d) ≡ false = search (rules, id) in
    let done = subst (λ r. IsWanting old new outcome ⊎ IsOutcome old r new outcome) (ap (asked_of old) c.take_member.ensures.left ∙ asked_no_id old d) c.ask-outcome.ensures.outcome in
    subst (λ b. IsReplyUnless b old d new (reply_view (record { id = c.unwrap_or-id.result; outcome = c.ask-outcome.result }))) (sym plain) (id, done)
