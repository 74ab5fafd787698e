use Rattle.source_session.proofs.Histories.{led_by_texts, led_on_by_texts}
use Rattle.source_session.proofs.laws.conversations.Goals as goal

pub returns : goal.returns
returns g c = record { led = led_by_texts; led_on = led_on_by_texts }
