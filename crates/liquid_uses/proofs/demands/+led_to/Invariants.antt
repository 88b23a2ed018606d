use Rattle.liquid_uses.proofs.demands.+led_to.Given as goal

abbrev pub decreases-led_to : goal.decreases-led_to
decreases-led_to l = l.room
