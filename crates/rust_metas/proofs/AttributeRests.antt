-- What is left behind attributes is left of the tokens before them.
use Rattle.rust_metas.proofs.Common.{DocStyle, Outer, Inner, Tokens, at, one, LeadsTo, here, through, Forwards, turns_leads, reads_from, sees, is_doc, is_behind, one_attribute, behind_docs, behind_attribute, attribute, attributes, outer_attributes, inner_attributes}
use Rattle.rust_cursor.proofs.AnchoredRules.{rule_leads_from}
use Rattle.rust_cursor.proofs.Rules.{past_leads}

pub behind_attribute_leads : (style : DocStyle) (ts : Tokens) → LeadsTo ts (behind_attribute style ts)
unfolding behind_docs
behind_attribute_leads Outer ts = past_leads (sees (is_doc Inner)) _ ts
behind_attribute_leads Inner ts = here

pub attribute_leads : (style : DocStyle) → Forwards (attribute style)
unfolding attribute
attribute_leads style ts = through (rule_leads_from (at ts) (one_attribute style) ts) (behind_attribute_leads style _)

attributes_leads : (style : DocStyle) → Forwards (attributes style)
unfolding attributes
attributes_leads style ts = turns_leads (sees (is_behind style)) (one (attribute style)) (attribute_leads style) ts

pub outer_attributes_leads : Forwards outer_attributes
unfolding outer_attributes
outer_attributes_leads ts = attributes_leads Outer ts

pub inner_attributes_leads : Forwards inner_attributes
unfolding inner_attributes
inner_attributes_leads ts = attributes_leads Inner ts
