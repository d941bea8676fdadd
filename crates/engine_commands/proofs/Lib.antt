mod PolicyApplies
