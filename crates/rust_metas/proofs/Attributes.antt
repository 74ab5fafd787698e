-- Attributes of tokens that look alike are the same, until one goes past where the texts part.
use Rattle.std.proofs.Common.{◌≡◌, true, false, refl}
use Rattle.rust_metas.proofs.Common.{DocStyle, Outer, Inner, Tokens, at, Onward, on, Parting, UpTo, pass_until, turns_until, Entering, Levels, levelled, level_enters, level_counted, until_level, sees, is_doc, is_behind, one_attribute, behind_docs, behind_attribute, attribute, attributes, outer_attributes, inner_attributes}
use Rattle.rust_cursor.proofs.AnchoredRules.{rule_until_from}
use Rattle.rust_cursor.proofs.Looks.{look_same, past_are, seen_no_edge, skipped_same}
use Rattle.rust_metas.specs.Attributes.{behind_short, doc_skipped}
use Rattle.rust_metas.proofs.AttributeRests.{behind_attribute_leads, attribute_leads}

behind_attribute_onward : (b : Parting) (style : DocStyle) (ts us : Tokens) → b.twins.are ts us → Onward b.twins.are b.lost (behind_attribute style ts) (behind_attribute style us)
unfolding behind_docs
behind_attribute_onward b Outer ts us h = on (past_are b.twins (sees (is_doc Inner)) (skipped_same b.twins (is_doc Inner) 1 (doc_skipped Inner)) (λ ts e. seen_no_edge (is_doc Inner) ts (doc_skipped Inner) e) _ ts us h)
behind_attribute_onward b Inner ts us h = on h

attribute_until : (b : Parting) → Entering b → Levels b → (style : DocStyle) → UpTo b (attribute style) (attribute style)
unfolding attribute
attribute_until b enter l style ts us h =
    let v = levelled b l (at ts) (at us) in
    pass_until b (behind_attribute style) (behind_attribute_leads style) (behind_attribute_onward b style)
    (until_level b l (at ts) (at us) (rule_until_from v (level_enters b l (at ts) (at us) enter) (at ts) (at us) (level_counted b l (at ts) (at us)) (one_attribute style) ts us (l.here ts us h)))

attributes_until : (b : Parting) → Entering b → Levels b → (style : DocStyle) → UpTo b (attributes style) (attributes style)
unfolding attributes
attributes_until b enter l style =
    turns_until b (sees (is_behind style)) (attribute style) (attribute style) (look_same b.twins (is_behind style) (behind_short style)) (attribute_until b enter l style) (attribute_leads style) (attribute_leads style)

pub outer_attributes_until : (b : Parting) → Entering b → Levels b → UpTo b outer_attributes outer_attributes
unfolding outer_attributes
outer_attributes_until b enter l = attributes_until b enter l Outer

pub inner_attributes_until : (b : Parting) → Entering b → Levels b → UpTo b inner_attributes inner_attributes
unfolding inner_attributes
inner_attributes_until b enter l = attributes_until b enter l Inner
