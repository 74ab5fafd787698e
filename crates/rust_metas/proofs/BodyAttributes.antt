-- Attributes of tokens beside are the same, until one goes into the braces.
use Rattle.rust_cursor.specs.TokensBeside.{Bodies}
use Rattle.rust_cursor.proofs.SideReaders.{into_braces, braces_enter, braces_levels, is_until}
use Rattle.rust_cursor.proofs.BodyReaders.{UpTo}
use Rattle.rust_metas.proofs.Common.{outer_attributes, inner_attributes}
use Rattle.rust_metas.proofs.Attributes as alike

pub outer_attributes_until : (b : Bodies) → UpTo b outer_attributes
outer_attributes_until b ts us h = is_until (alike.outer_attributes_until (into_braces b) (braces_enter b) (braces_levels b) ts us h)

pub inner_attributes_until : (b : Bodies) → UpTo b inner_attributes
inner_attributes_until b ts us h = is_until (alike.inner_attributes_until (into_braces b) (braces_enter b) (braces_levels b) ts us h)
