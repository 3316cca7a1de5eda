mod Acts
